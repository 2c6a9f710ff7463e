-- Each line and each expression that is written has a derivation.
use Rattle.std.proofs.Common.{Bool, true, false, List, [], ◌∷◌, Option, Some, None, refl}
use Rattle.ir_types.specs.declared.names.Name.{Name}
use Rattle.ir_lexer.specs.declared.token.Number.{Number}
use Rattle.module_grammar.specs.declared.attributes.MetaText.{MetaText}
use Rattle.module_grammar.specs.declared.commas.AlignBehindText.{AlignBehindText}
use Rattle.module_grammar.specs.declared.commas.NextAlignText.TheVariants as next_align
use Rattle.module_grammar.specs.declared.commas.NextCountText.TheVariants as next_count
use Rattle.module_grammar.specs.declared.commas.NextIndexText.TheVariants as next_index
use Rattle.module_grammar.specs.declared.constants.OperandText.{OperandText}
use Rattle.module_grammar.specs.declared.lines.ArgumentText.{ArgumentText}
use Rattle.module_grammar.specs.declared.lines.AttachedText.{AttachedText}
use Rattle.module_grammar.specs.declared.lines.CallBodyText.{CallBodyText}
use Rattle.module_grammar.specs.declared.lines.CallBodyText.TheVariants as body
use Rattle.module_grammar.specs.declared.lines.CallEndText.{CallEndText}
use Rattle.module_grammar.specs.declared.lines.CalleeText.{CalleeText}
use Rattle.module_grammar.specs.declared.lines.CastWord.{CastWord}
use Rattle.module_grammar.specs.declared.lines.CastWord.TheVariants as conversion
use Rattle.module_grammar.specs.declared.lines.CountText.{CountText}
use Rattle.module_grammar.specs.declared.lines.ExprText.{ExprText}
use Rattle.module_grammar.specs.declared.lines.ExprText.TheVariants as expressions
use Rattle.module_grammar.specs.declared.lines.InstructionText.{InstructionText}
use Rattle.module_grammar.specs.declared.lines.InstructionText.TheVariants as instructions
use Rattle.module_grammar.specs.declared.lines.LineText.{LineText}
use Rattle.module_grammar.specs.declared.lines.OperationText.{OperationText}
use Rattle.module_grammar.specs.declared.lines.OperationText.TheVariants as form
use Rattle.module_grammar.specs.declared.lines.OperatorText.{OperatorText}
use Rattle.module_grammar.specs.declared.lines.OperatorText.TheVariants as operators
use Rattle.module_grammar.specs.declared.lines.VoidCallText.{VoidCallText}
use Rattle.module_grammar.specs.declared.lines.VoidCallText.TheVariants as of_void
use Rattle.module_grammar.specs.declared.lines.VoidCalleeText.{VoidCalleeText}
use Rattle.module_grammar.specs.declared.operators.FlagWord.{FlagWord}
use Rattle.module_grammar.specs.declared.places.Placed.{Placed}
use Rattle.module_grammar.specs.declared.types.TypeText.{TypeText}
use Rattle.module_grammar.specs.Rules.{meaning}
use Rattle.module_grammar.proofs.AttributesMade.{align, attachment, attachments, function_attributes, param_attribute, param_attributes}
use Rattle.module_grammar.proofs.ConstantsMade.{global_name, inbounds, indices, int, operand, value}
use Rattle.module_grammar.proofs.Lawful.{by}
use Rattle.module_grammar.proofs.TypesMade.{function_type, result, ty}
use Rattle.predictive.specs.Made.{Made}

-- ---- operations of values

exactness : (x : Bool) → Made meaning 54 x
exactness false = by 126 refl _ tt
exactness true = by 127 refl _ tt

flags : (x : List FlagWord) → Made meaning 53 x
flags [] = by 124 refl _ tt
flags (f ∷ fs) = by 125 refl _ (flags fs, tt)

operator : (x : OperatorText) → Made meaning 52 x
operator (operators.Overflow op fs) = by 121 refl _ (flags fs, tt)
operator (operators.Exact op is_exact) = by 122 refl _ (exactness is_exact, tt)
operator (operators.Plain op) = by 123 refl _ tt

pub operation : (x : OperationText) → Made meaning 55 x
operation (form.Binary x) = by 128 refl _ (operator x.operator, (operand x.left, (value x.right, tt)))
operation (form.Compare x) = by 129 refl _ (operand x.left, (value x.right, tt))
operation (form.Cast x) = converted x.word x.from x.to
  where
    converted : (w : CastWord) (o : OperandText) (t : TypeText) → Made meaning 55 (form.Cast (record { word = w; from = o; to = t }))
    converted (conversion.Resize op) o t = by 130 refl _ (operand o, (ty t, tt))
    converted (conversion.BitCast at) o t = by 131 refl _ (operand o, (ty t, tt))
operation (form.Select x) = by 132 refl _ (operand x.condition, (operand x.then, (operand x.other, tt)))

-- ---- what stands behind commas

align_parts : (n : Option (Placed Number)) (ms : List MetaText) → Made meaning 57 (record { align = n; attachments = ms })
align_parts None [] = by 140 refl _ tt
align_parts None (m ∷ ms) =
    by 141 refl (tt, (next_align.Attachment m ms, tt)) (by 143 refl _ (attachment m, (attachments ms, tt)), tt)
align_parts (Some n) ms = by 141 refl (tt, (next_align.Align n ms, tt)) (by 142 refl _ (attachments ms, tt), tt)

align_behind : (x : AlignBehindText) → Made meaning 57 x
align_behind x = align_parts x.align x.attachments

count_parts : (c : Option CountText) (n : Option (Placed Number)) (ms : List MetaText) → Made meaning 59 (record { count = c; behind = record { align = n; attachments = ms } })
count_parts (Some c) n ms =
    by 145 refl (tt, (next_count.Count c (record { align = n; attachments = ms }), tt))
    (by 146 refl (c.ty, (c.number, (record { align = n; attachments = ms }, tt))) (ty c.ty, (int c.number, (align_parts n ms, tt))), tt)
count_parts None None [] = by 144 refl _ tt
count_parts None None (m ∷ ms) =
    by 145 refl (tt, (next_count.Other (next_align.Attachment m ms), tt))
    (by 147 refl _ (by 143 refl _ (attachment m, (attachments ms, tt)), tt), tt)
count_parts None (Some n) ms =
    by 145 refl (tt, (next_count.Other (next_align.Align n ms), tt))
    (by 147 refl _ (by 142 refl _ (attachments ms, tt), tt), tt)

indices_parts : (os : List OperandText) (ms : List MetaText) → Made meaning 61 (record { indices = os; attachments = ms })
indices_parts [] [] = by 148 refl _ tt
indices_parts [] (m ∷ ms) =
    by 149 refl (tt, (next_index.Attachment m ms, tt)) (by 151 refl _ (attachment m, (attachments ms, tt)), tt)
indices_parts (o ∷ os) ms =
    by 149 refl (tt, (next_index.Index o (record { indices = os; attachments = ms }), tt))
    (by 150 refl _ (operand o, (indices_parts os ms, tt)), tt)

-- ---- calls

argument : (x : ArgumentText) → Made meaning 70 x
argument a = by 166 refl _ (ty a.ty, (param_attributes a.attributes, (value a.value, tt)))

more_arguments : (x : List ArgumentText) → Made meaning 69 x
more_arguments [] = by 164 refl _ tt
more_arguments (a ∷ more) = by 165 refl _ (argument a, (more_arguments more, tt))

arguments : (x : List ArgumentText) → Made meaning 68 x
arguments [] = by 162 refl _ tt
arguments (a ∷ more) = by 163 refl _ (argument a, (more_arguments more, tt))

call_end : (x : CallEndText) → Made meaning 67 x
call_end e = by 161 refl _ (arguments e.arguments, (function_attributes e.attributes, tt))

callee : (x : CalleeText) → Made meaning 64 x
callee c = by 156 refl _ (result c.result, (function_type c.called, (global_name c.name, tt)))

void_call : (x : VoidCallText) → Made meaning 66 x
void_call (of_void.Call name end) = by 159 refl _ (call_end end, tt)
void_call (of_void.Debug name attributes) = by 160 refl _ (function_attributes attributes, tt)

void_parts : (is_stated : Bool) (call : VoidCallText) → Made meaning 65 (record { is_stated = is_stated; call = call })
void_parts false call = by 157 refl _ (void_call call, tt)
void_parts true call = by 158 refl _ (void_call call, tt)

void_callee : (x : VoidCalleeText) → Made meaning 65 x
void_callee v = void_parts v.is_stated v.call

call_body : (x : CallBodyText) → Made meaning 63 x
call_body (body.Convention attributes c end) = by 152 refl _ (param_attributes attributes, (callee c, (call_end end, tt)))
call_body (body.Attributes first others c end) =
    by 153 refl _ (param_attribute first, (param_attributes others, (callee c, (call_end end, tt))))
call_body (body.Typed t called name end) = by 154 refl _ (ty t, (function_type called, (global_name name, (call_end end, tt))))
call_body (body.Void v) = by 155 refl _ (void_callee v, tt)

-- ---- lines

attached_parts : (x : InstructionText) (ms : List MetaText) → Made meaning 56 (record { instruction = x; attachments = ms })
attached_parts (instructions.Operation o) ms = by 133 refl _ (operation o, (attachments ms, tt))
attached_parts (instructions.Element e) ms =
    by 134 refl (e.at, (e.inbounds, (e.of, (tt, (e.base, (record { indices = e.indices; attachments = ms }, tt))))))
    (inbounds e.inbounds, (ty e.of, (operand e.base, (indices_parts e.indices ms, tt))))
attached_parts (instructions.Alloca a) ms =
    by 135 refl (tt, (a.ty, (record { count = a.count; behind = record { align = a.align; attachments = ms } }, tt)))
    (ty a.ty, (count_parts a.count a.align ms, tt))
attached_parts (instructions.Load l) ms =
    by 136 refl (tt, (l.ty, (tt, (l.address, (record { align = l.align; attachments = ms }, tt)))))
    (ty l.ty, (operand l.address, (align_parts l.align ms, tt)))
attached_parts (instructions.Store s) ms =
    by 137 refl (tt, (s.value, (tt, (s.address, (record { align = s.align; attachments = ms }, tt)))))
    (operand s.value, (operand s.address, (align_parts s.align ms, tt)))
attached_parts (instructions.Call c) ms = called c.tail c.body
  where
    called : (tail : Bool) (b : CallBodyText) → Made meaning 56 (record { instruction = instructions.Call (record { tail = tail; body = b }); attachments = ms })
    called true b = by 138 refl _ (call_body b, (attachments ms, tt))
    called false b = by 139 refl _ (call_body b, (attachments ms, tt))

pub attached : (x : AttachedText) → Made meaning 56 x
attached a = attached_parts a.instruction a.attachments

pub register : (x : Option (Placed Name)) → Made meaning 72 x
register None = by 168 refl _ tt
register (Some name) = by 169 refl _ tt

line : (x : LineText) → Made meaning 71 x
line l = by 167 refl _ (register l.register, (attached l.attached, tt))

pub lines : (x : List LineText) → Made meaning 73 x
lines [] = by 170 refl _ tt
lines (l ∷ ls) = by 171 refl _ (line l, (lines ls, tt))

pub expression : (x : ExprText) → Made meaning 74 x
expression (expressions.Plain o) = by 172 refl _ (operand o, tt)
expression (expressions.Operation o) = by 173 refl _ (operation o, tt)
expression (expressions.Element e) =
    by 174 refl _ (inbounds e.inbounds, (ty e.of, (operand e.base, (indices e.indices, tt))))
expression (expressions.Load l) = by 175 refl _ (ty l.ty, (operand l.address, (align l.align, tt)))
