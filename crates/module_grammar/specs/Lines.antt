-- How lines and expressions are written (LangRef 3.7, Instruction Reference).
use Rattle.std.specs.Prelude.{Bool, true, false, List, [], ◌∷◌, ◌++◌, map, Option, Some, None}
use Rattle.std.specs.List.{flat_map}
use Rattle.ir_types.specs.declared.names.Name.{Name}
use Rattle.ir_lexer.specs.declared.token.Number.{Number}
use Rattle.module_grammar.specs.declared.commas.AlignBehindText.{AlignBehindText}
use Rattle.module_grammar.specs.declared.commas.CountBehindText.{CountBehindText}
use Rattle.module_grammar.specs.declared.commas.IndicesBehindText.{IndicesBehindText}
use Rattle.module_grammar.specs.declared.commas.NextAlignText.{NextAlignText}
use Rattle.module_grammar.specs.declared.commas.NextAlignText.TheVariants as align_next
use Rattle.module_grammar.specs.declared.commas.NextCountText.{NextCountText}
use Rattle.module_grammar.specs.declared.commas.NextCountText.TheVariants as count_next
use Rattle.module_grammar.specs.declared.commas.NextIndexText.{NextIndexText}
use Rattle.module_grammar.specs.declared.commas.NextIndexText.TheVariants as index_next
use Rattle.module_grammar.specs.declared.lines.AllocaText.{AllocaText}
use Rattle.module_grammar.specs.declared.lines.ArgumentText.{ArgumentText}
use Rattle.module_grammar.specs.declared.lines.AttachedText.{AttachedText}
use Rattle.module_grammar.specs.declared.lines.BinaryText.{BinaryText}
use Rattle.module_grammar.specs.declared.lines.CallBodyText.{CallBodyText}
use Rattle.module_grammar.specs.declared.lines.CallBodyText.TheVariants as body
use Rattle.module_grammar.specs.declared.lines.CallEndText.{CallEndText}
use Rattle.module_grammar.specs.declared.lines.CallText.{CallText}
use Rattle.module_grammar.specs.declared.lines.CalleeText.{CalleeText}
use Rattle.module_grammar.specs.declared.lines.CastText.{CastText}
use Rattle.module_grammar.specs.declared.lines.CastWord.{CastWord}
use Rattle.module_grammar.specs.declared.lines.CastWord.TheVariants as conversion
use Rattle.module_grammar.specs.declared.lines.CompareText.{CompareText}
use Rattle.module_grammar.specs.declared.lines.CountText.{CountText}
use Rattle.module_grammar.specs.declared.lines.ElementText.{ElementText}
use Rattle.module_grammar.specs.declared.lines.ExprText.{ExprText}
use Rattle.module_grammar.specs.declared.lines.ExprText.TheVariants as kind
use Rattle.module_grammar.specs.declared.lines.InstructionText.{InstructionText}
use Rattle.module_grammar.specs.declared.lines.InstructionText.TheVariants as instructions
use Rattle.module_grammar.specs.declared.lines.LineText.{LineText}
use Rattle.module_grammar.specs.declared.lines.LoadText.{LoadText}
use Rattle.module_grammar.specs.declared.lines.OperationText.{OperationText}
use Rattle.module_grammar.specs.declared.lines.OperationText.TheVariants as form
use Rattle.module_grammar.specs.declared.lines.OperatorText.{OperatorText}
use Rattle.module_grammar.specs.declared.lines.OperatorText.TheVariants as operators
use Rattle.module_grammar.specs.declared.lines.SelectText.{SelectText}
use Rattle.module_grammar.specs.declared.lines.StoreText.{StoreText}
use Rattle.module_grammar.specs.declared.lines.VoidCallText.{VoidCallText}
use Rattle.module_grammar.specs.declared.lines.VoidCallText.TheVariants as of_void
use Rattle.module_grammar.specs.declared.lines.VoidCalleeText.{VoidCalleeText}
use Rattle.module_grammar.specs.declared.places.Placed.{Placed}
use Rattle.module_grammar.specs.Attributes.{attachment, attachments, function_attribute, param_attribute}
use Rattle.module_grammar.specs.Constants.{global_name, inbounds, int, operand, value}
use Rattle.module_grammar.specs.Listed.{listed, further}
use Rattle.module_grammar.specs.Symbols.{Symbol, Local, Global, Debug, Numeral, Overflow, Exact, Plain, Resize, Pred, Flag, Element, BitCast, exact, icmp, to, void, ccc, balanced, comma, equals, open_paren, close_paren}
use Rattle.module_grammar.specs.Symbols as symbol
use Rattle.module_grammar.specs.Types.{function_type, result, ty}

-- ---- operations of values

-- [exact]
abbrev pub exactness : Bool → List Symbol
exactness true = exact ∷ []
exactness false = []

-- add, sub, mul, shl {nuw|nsw}; udiv, sdiv, lshr, ashr [exact]; urem, srem, and, or, xor: `mul nuw`, `lshr exact`, `xor`
abbrev pub operator : OperatorText → List Symbol
operator (operators.Overflow op flags) = Overflow op ∷ map Flag flags
operator (operators.Exact op is_exact) = Exact op ∷ exactness is_exact
operator (operators.Plain op) = Plain op ∷ []

-- operator T V, V: `add nsw i32 %x, 7`
abbrev pub binary : BinaryText → List Symbol
binary b = operator b.operator ++ (operand b.left ++ (comma ∷ value b.right))

-- icmp PRED T V, V: `icmp ult i8 %x, 7`
abbrev pub compare : CompareText → List Symbol
compare c = icmp ∷ Pred c.pred ∷ (operand c.left ++ (comma ∷ value c.right))

-- zext, sext, trunc or bitcast
abbrev pub cast_word : CastWord → Symbol
cast_word (conversion.Resize op) = Resize op
cast_word (conversion.BitCast at) = BitCast at

-- WORD T V to T: `zext i8 %x to i32`
abbrev pub cast : CastText → List Symbol
cast c = cast_word c.word ∷ (operand c.from ++ (to ∷ ty c.to))

-- select T V, T V, T V: `select i1 %c, i8 1, i8 %x`
abbrev pub select : SelectText → List Symbol
select s = symbol.select ∷ (operand s.condition ++ (comma ∷ (operand s.then ++ (comma ∷ operand s.other))))

abbrev pub operation : OperationText → List Symbol
operation (form.Binary b) = binary b
operation (form.Compare c) = compare c
operation (form.Cast c) = cast c
operation (form.Select s) = select s

-- ---- memory

-- [, align N]
abbrev pub align : Option (Placed Number) → List Symbol
align None = []
align (Some n) = comma ∷ symbol.align ∷ Numeral n ∷ []

-- getelementptr [inbounds] T, T V {, T V}: `getelementptr inbounds {i8, i32}, {i8, i32}* %p, i32 0, i32 1`
abbrev pub element : ElementText → List Symbol
element e = Element e.at ∷ (inbounds e.inbounds ++ (ty e.of ++ (comma ∷ (operand e.base ++ further (map operand e.indices)))))

-- [, T INT]
abbrev pub count : Option CountText → List Symbol
count None = []
count (Some c) = comma ∷ (ty c.ty ++ (int c.number ∷ []))

-- alloca T [, T INT] [, align N]: `alloca i32, i8 4, align 4`
abbrev pub alloca : AllocaText → List Symbol
alloca a = symbol.alloca ∷ (ty a.ty ++ (count a.count ++ align a.align))

-- load T, T V [, align N]: `load i32, i32* %p, align 4`
abbrev pub load : LoadText → List Symbol
load l = symbol.load ∷ (ty l.ty ++ (comma ∷ (operand l.address ++ align l.align)))

-- store T V, T V [, align N]: `store i32 7, i32* %p`
abbrev pub store : StoreText → List Symbol
store s = symbol.store ∷ (operand s.value ++ (comma ∷ (operand s.address ++ align s.align)))

-- ---- calls

-- T {attribute} V: `i8 zeroext %x`
abbrev pub argument : ArgumentText → List Symbol
argument a = ty a.ty ++ (flat_map param_attribute a.attributes ++ value a.value)

-- [argument {, argument}]
abbrev pub arguments : List ArgumentText → List Symbol
arguments all = listed (map argument all)

-- ( arguments ) {attribute}: `(i8 7) nounwind`
abbrev pub call_end : CallEndText → List Symbol
call_end e = open_paren ∷ (arguments e.arguments ++ (close_paren ∷ flat_map function_attribute e.attributes))

-- (T | void) [function type] GLOBAL: `i32 (i8*, ...) @printf`
abbrev pub callee : CalleeText → List Symbol
callee c = result c.result ++ (function_type c.called ++ (global_name c.name ∷ []))

-- GLOBAL ( arguments ) {attribute}; or of debugging DEBUG ( balanced ) {attribute}: `@f(i8 7)`
abbrev pub void_call : VoidCallText → List Symbol
void_call (of_void.Call name end) = Global name ∷ call_end end
void_call (of_void.Debug name attributes) = Debug name ∷ open_paren ∷ balanced ∷ close_paren ∷ flat_map function_attribute attributes

-- [( balanced )]
abbrev pub stated : Bool → List Symbol
stated true = open_paren ∷ balanced ∷ close_paren ∷ []
stated false = []

abbrev pub void_callee : VoidCalleeText → List Symbol
void_callee v = stated v.is_stated ++ void_call v.call

-- [ccc] {attribute} (T | void) [function type] GLOBAL ( arguments ) {attribute}: `ccc zeroext i8 @f(i8 7)`. Of what stands between parentheses
-- behind a mere `void` it is only known that brackets pair off.
abbrev pub call_body : CallBodyText → List Symbol
call_body (body.Convention attributes c end) = ccc ∷ (flat_map param_attribute attributes ++ (callee c ++ call_end end))
call_body (body.Attributes first others c end) = param_attribute first ++ (flat_map param_attribute others ++ (callee c ++ call_end end))
call_body (body.Typed t called name end) = ty t ++ (function_type called ++ (global_name name ∷ call_end end))
call_body (body.Void v) = void ∷ void_callee v

-- [tail]
abbrev pub tail : Bool → List Symbol
tail true = symbol.tail ∷ []
tail false = []

-- [tail] call ..: `tail call void @f()`
abbrev pub call : CallText → List Symbol
call c = tail c.tail ++ (symbol.call ∷ call_body c.body)

-- ---- lines

abbrev pub instruction : InstructionText → List Symbol
instruction (instructions.Operation o) = operation o
instruction (instructions.Element e) = element e
instruction (instructions.Alloca a) = alloca a
instruction (instructions.Load l) = load l
instruction (instructions.Store s) = store s
instruction (instructions.Call c) = call c

-- instruction {, !RUN META}: `add i32 %x, 7, !dbg !4`
abbrev pub attached : AttachedText → List Symbol
attached a = instruction a.instruction ++ attachments a.attachments

-- [LOCAL =]: `%x =`
abbrev pub register : Option (Placed Name) → List Symbol
register None = []
register (Some name) = Local name ∷ equals ∷ []

-- [LOCAL =] instruction {, !RUN META}: `%x = add i32 %y, 7, !dbg !4`
abbrev pub line : LineText → List Symbol
line l = register l.register ++ attached l.attached

-- T V, or an operation, a getelementptr or a load: `i32 %x`
abbrev pub expression : ExprText → List Symbol
expression (kind.Plain o) = operand o
expression (kind.Operation o) = operation o
expression (kind.Element e) = element e
expression (kind.Load l) = load l

-- ---- what stands behind commas

-- [, align N] {, !RUN META}
abbrev pub align_behind : AlignBehindText → List Symbol
align_behind b = align b.align ++ attachments b.attachments

-- the same from behind a comma on
abbrev pub next_align : NextAlignText → List Symbol
next_align (align_next.Align n more) = symbol.align ∷ Numeral n ∷ attachments more
next_align (align_next.Attachment first others) = attachment first ++ attachments others

-- [, T INT] [, align N] {, !RUN META}
abbrev pub count_behind : CountBehindText → List Symbol
count_behind b = count b.count ++ align_behind b.behind

abbrev pub next_count : NextCountText → List Symbol
next_count (count_next.Count c b) = ty c.ty ++ (int c.number ∷ align_behind b)
next_count (count_next.Other x) = next_align x

-- {, T V} {, !RUN META}
abbrev pub indices_behind : IndicesBehindText → List Symbol
indices_behind b = further (map operand b.indices) ++ attachments b.attachments

abbrev pub next_index : NextIndexText → List Symbol
next_index (index_next.Index o more) = operand o ++ indices_behind more
next_index (index_next.Attachment first others) = attachment first ++ attachments others
