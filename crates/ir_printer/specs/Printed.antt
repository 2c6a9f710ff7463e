-- How modules are printed (LangRef 3.7, Module Structure, Structure Types, Functions, phi and Terminator Instructions).
use Rattle.std.specs.Prelude.{ℕ, ◌+◌, ◌&&◌, Bool, true, cond, if◌then◌else◌, List, [], ◌∷◌, ◌++◌, codes, map, Option, None, Some}
use Rattle.std.specs.List.{flat_map}
use Rattle.std.specs.Fmt.{decimal}
use Rattle.ir_types.specs.declared.names.Name.{Name}
use Rattle.ir_types.specs.declared.names.Name.TheVariants.{Text, Number}
use Rattle.ir_types.specs.declared.names.Sigil.TheVariants.{Global}
use Rattle.ir_types.specs.declared.named.NamedTy.{NamedTy}
use Rattle.ir_types.specs.declared.ty.Ty.{Ty}
use Rattle.ir_types.specs.Same.{same_name}
use Rattle.ir_core.specs.declared.functions.Alloca.{Alloca}
use Rattle.ir_core.specs.declared.functions.Argument.{Argument}
use Rattle.ir_core.specs.declared.functions.Call.{Call}
use Rattle.ir_core.specs.declared.functions.Calm.{Calm}
use Rattle.ir_core.specs.declared.functions.Extensions.{Extensions}
use Rattle.ir_core.specs.declared.functions.Instr.{Instr}
use Rattle.ir_core.specs.declared.functions.Instr.TheVariants as instr
use Rattle.ir_core.specs.declared.functions.Phi.{Phi}
use Rattle.ir_core.specs.declared.functions.Entry.{Entry}
use Rattle.ir_core.specs.declared.functions.CondBr.{CondBr}
use Rattle.ir_core.specs.declared.functions.Case.{Case}
use Rattle.ir_core.specs.declared.functions.Store.{Store}
use Rattle.ir_core.specs.declared.functions.Switch.{Switch}
use Rattle.ir_core.specs.declared.functions.Term.{Term}
use Rattle.ir_core.specs.declared.functions.Term.TheVariants as term
use Rattle.ir_core.specs.declared.functions.Block.{Block}
use Rattle.ir_core.specs.declared.functions.Param.{Param}
use Rattle.ir_core.specs.declared.functions.Function.{Function}
use Rattle.ir_core.specs.declared.modules.Declaration.{Declaration}
use Rattle.ir_core.specs.declared.modules.DeclaredParam.{DeclaredParam}
use Rattle.ir_core.specs.declared.modules.Module.{Module}
use Rattle.ir_core.specs.Modules.{those_before, those_behind}
use Rattle.ir_core.specs.Words.{signext_word, zeroext_word}
use Rattle.ir_printer.specs.ExpressionPrinter.Printed.{name_text, printed_name, printed_local, printed_type, number_text, listed, struct_text, printed_align, printed_flag, printed_value, printed_operand, printed_expr}
use Rattle.ir_printer.specs.Globals.{global_text, linkage_text}

-- ---- lines

-- a line of a block: two blanks before it, and its end
abbrev pub indented : List ℕ → List ℕ
indented text = codes "  " ++ (text ++ 10 ∷ [])

-- `%x = `
abbrev pub set_text : Name → List ℕ
set_text register = printed_local register ++ codes " = "

-- `[ 1, %b ]`
abbrev pub entry_text : Ty → Entry → List ℕ
entry_text ty e = codes "[ " ++ (printed_value ty e.value ++ (codes ", " ++ (printed_local e.from ++ codes " ]")))

-- `%x = phi i32 [ 1, %a ], [ %y, %b ]`
abbrev pub phi_text : Phi → List ℕ
phi_text p = set_text p.name ++ (codes "phi " ++ (printed_type p.ty ++ listed (codes " ") (map (entry_text p.ty) p.entries)))

-- `%x = add i32 %y, 1`
abbrev pub calm_text : Calm → List ℕ
calm_text c = set_text c.name ++ printed_expr printed_local c.right

-- `, i32 4`, where a count is kept
abbrev pub count_text : Option (Ty × ℕ) → List ℕ
count_text None = []
count_text (Some c) = codes ", " ++ (printed_type c.0 ++ (32 ∷ number_text c.0 c.1))

-- `%x = alloca i8, i32 4, align 1`
abbrev pub alloca_text : Alloca → List ℕ
alloca_text a = set_text a.name ++ (codes "alloca " ++ (printed_type a.of ++ (count_text a.count ++ printed_align a.align)))

-- `store i32 %v, i32* %p, align 4`
abbrev pub store_text : Store → List ℕ
store_text s =
    codes "store " ++ (printed_operand printed_local s.value ++ (codes ", " ++ (printed_operand printed_local s.pointer ++ printed_align s.align)))

abbrev pub extensions_text : Extensions → List ℕ
extensions_text e = printed_flag e.signed signext_word ++ printed_flag e.zero zeroext_word

-- `i8 signext %x`
abbrev pub argument_text : Argument → List ℕ
argument_text a = printed_type a.operand.ty ++ (32 ∷ (extensions_text a.extensions ++ printed_value a.operand.ty a.operand.atom))

-- the register that a call sets, if it sets one
abbrev pub may_set_text : Option Name → List ℕ
may_set_text None = []
may_set_text (Some register) = set_text register

-- `@f(i8 signext %y, i32 1)`
abbrev pub callee_text : Call → List ℕ
callee_text c = printed_name Global c.callee ++ (40 ∷ (listed [] (map argument_text c.arguments) ++ 41 ∷ []))

-- `...` stands last, where further arguments may follow
abbrev pub dots : Bool → List (List ℕ)
dots variadic = if variadic then codes "..." ∷ [] else []

-- `(i8*, ...) `, the type of a function with these parameters that takes further arguments
abbrev pub function_type_text : Declaration → List ℕ
function_type_text d = 40 ∷ (listed [] (map (λ (p : DeclaredParam). printed_type p.ty) d.params ++ dots true) ++ codes ") ")

abbrev pub takes_further : Name → Declaration → Bool
takes_further x d = d.variadic && same_name x d.name

-- the first one of that name
abbrev pub called_in : List Declaration → Name → Option Declaration
called_in [] x = None
called_in (d ∷ ds) x = cond (takes_further x d) (Some d) (called_in ds x)

abbrev pub stated_text : Option Declaration → List ℕ
stated_text None = []
stated_text (Some d) = function_type_text d

-- What a call states of the function of that name beside its result: the function type where it is declared to take further arguments, and
-- else nothing.
abbrev pub called_text : List Declaration → Name → List ℕ
called_text ds x = stated_text (called_in ds x)

-- `%x = call signext i8 @f(i8 signext %y, i32 1)`, and `call i32 (i8*, ...) @g(i8* %p)` of a function that takes further arguments
abbrev pub call_text : List Declaration → Call → List ℕ
call_text ds c =
    may_set_text c.name
    ++ (codes "call " ++ (extensions_text c.result_extensions ++ (printed_type c.result ++ (32 ∷ (called_text ds c.callee ++ callee_text c)))))

-- beside what is declared
abbrev pub instr_text : List Declaration → Instr → List ℕ
instr_text ds (instr.Calm c) = calm_text c
instr_text ds (instr.Alloca a) = alloca_text a
instr_text ds (instr.Store s) = store_text s
instr_text ds (instr.Call c) = call_text ds c

-- ---- terminators

-- `label %b`
abbrev pub label_text : Name → List ℕ
label_text block = codes "label " ++ printed_local block

-- `br i1 %c, label %a, label %b`
abbrev pub cond_br_text : CondBr → List ℕ
cond_br_text c =
    codes "br " ++ (printed_operand printed_local c.condition ++ (codes ", " ++ (label_text c.on_true ++ (codes ", " ++ label_text c.on_false))))

-- `i32 1, label %b` on a line of its own, behind four blanks
abbrev pub case_text : Case → List ℕ
case_text c =
    codes "    " ++ (printed_type c.ty ++ (32 ∷ (number_text c.ty c.number ++ (codes ", " ++ (label_text c.label ++ 10 ∷ [])))))

-- `switch i32 %x, label %d [`, the cases, and `]` on the last line, behind two blanks
abbrev pub switch_text : Switch → List ℕ
switch_text s =
    codes "switch " ++ (printed_operand printed_local s.value ++ (codes ", " ++ (label_text s.default
    ++ (codes " [" ++ (10 ∷ (flat_map case_text s.cases ++ codes "  ]"))))))

abbrev pub term_text : Term → List ℕ
term_text (term.Ret operand) = codes "ret " ++ printed_operand printed_local operand
term_text term.RetVoid = codes "ret void"
term_text (term.Br block) = codes "br " ++ label_text block
term_text (term.CondBr c) = cond_br_text c
term_text (term.Switch s) = switch_text s
term_text term.Unreachable = codes "unreachable"

-- ---- blocks

-- the phis, the lines and the terminator
abbrev pub lines_text : List Declaration → Block → List ℕ
lines_text ds b =
    flat_map (λ p. indented (phi_text p)) b.phis ++ (flat_map (λ l. indented (instr_text ds l)) b.body ++ indented (term_text b.term))

-- `name:` on a line of its own
abbrev pub label_line : Name → List ℕ
label_line name = name_text name ++ (58 ∷ 10 ∷ [])

-- what stands before the lines of the first block: nothing where it has no name
abbrev pub first_label : Name → List ℕ
first_label (Text bytes) = label_line (Text bytes)
first_label (Number n) = []

-- what stands before those of a block behind the first: a block without name has a comment
abbrev pub later_label : Name → List ℕ
later_label (Text bytes) = label_line (Text bytes)
later_label (Number n) = codes "; <label>:" ++ (decimal n ++ 10 ∷ [])

abbrev pub first_block : List Declaration → Block → List ℕ
first_block ds b = first_label b.name ++ lines_text ds b

-- a blank line stands before each block behind the first
abbrev pub later_block : List Declaration → Block → List ℕ
later_block ds b = 10 ∷ (later_label b.name ++ lines_text ds b)

abbrev pub blocks_text : List Declaration → List Block → List ℕ
blocks_text ds [] = []
blocks_text ds (b ∷ bs) = first_block ds b ++ flat_map (later_block ds) bs

-- ---- functions

-- ` %x`, and nothing of a parameter without name
abbrev pub param_name : Name → List ℕ
param_name (Text bytes) = 32 ∷ printed_local (Text bytes)
param_name (Number n) = []

-- a space and a word
abbrev pub behind_space : Bool → List ℕ → List ℕ
behind_space set word = if set then 32 ∷ word else []

-- ` signext`, behind a type
abbrev pub extended_text : Extensions → List ℕ
extended_text e = behind_space e.signed signext_word ++ behind_space e.zero zeroext_word

-- `i32 signext %x`, and `i32 signext` without name
abbrev pub param_text : Param → List ℕ
param_text p = printed_type p.ty ++ (extended_text p.extensions ++ param_name p.name)

-- `@f(i32 %x, i8) {`
abbrev pub signature_text : Function → List ℕ
signature_text f = printed_name Global f.name ++ (40 ∷ (listed [] (map param_text f.params) ++ (codes ") {" ++ 10 ∷ [])))

-- `define internal signext i32 @f(i32 %x, i8) {`
abbrev pub head_text : Function → List ℕ
head_text f =
    codes "define " ++ (linkage_text f.linkage ++ (extensions_text f.result_extensions ++ (printed_type f.result ++ (32 ∷ signature_text f))))

abbrev pub function_text : List Declaration → Function → List ℕ
function_text ds f = head_text f ++ (blocks_text ds f.blocks ++ (125 ∷ 10 ∷ []))

-- ---- declarations

-- `i8* signext`
abbrev pub declared_param_text : DeclaredParam → List ℕ
declared_param_text p = printed_type p.ty ++ extended_text p.extensions

-- `@f(i8* signext, ...)`
abbrev pub declared_signature : Declaration → List ℕ
declared_signature d = printed_name Global d.name ++ (40 ∷ (listed [] (map declared_param_text d.params ++ dots d.variadic) ++ (41 ∷ 10 ∷ [])))

-- `declare signext i8 @f(i8* signext, ...)` on a line of its own
abbrev pub declaration_text : Declaration → List ℕ
declaration_text d = codes "declare " ++ (extensions_text d.result_extensions ++ (printed_type d.result ++ (32 ∷ declared_signature d)))

-- Definitions and declarations in the order of the file, from the definition of that number on: each declaration that stands before it, and
-- then the definition itself, whose calls are beside all that is declared.
abbrev pub function_texts : List Declaration → ℕ → List Declaration → List Function → List (List ℕ)
function_texts declared count ds [] = map declaration_text ds
function_texts declared count ds (f ∷ fs) =
    map declaration_text (those_before count ds) ++ (function_text declared f ∷ function_texts declared (count + 1) (those_behind count ds) fs)

-- ---- modules

-- `{ i32, %x* }`, and `opaque`
abbrev pub body_text : Option (List Ty) → List ℕ
body_text None = codes "opaque"
body_text (Some fields) = struct_text (map printed_type fields)

-- `%x = type { i32, %x* }`
abbrev pub named_type_text : NamedTy → List ℕ
named_type_text t = printed_local t.name ++ (codes " = type " ++ (body_text t.fields ++ 10 ∷ []))

-- a text and a blank line behind it, and nothing behind nothing
abbrev pub blanked : List ℕ → List ℕ
blanked [] = []
blanked (byte ∷ bytes) = (byte ∷ bytes) ++ 10 ∷ []

-- texts behind that one, with a blank line between any two
abbrev pub all_behind : List ℕ → List (List ℕ) → List ℕ
all_behind text [] = text
all_behind text (next ∷ more) = all_behind (blanked text ++ next) more

-- the text of a group, if there is one
abbrev pub group : {A : Type 0} → (A → List ℕ) → List A → List (List ℕ)
group text_of [] = []
group text_of (x ∷ xs) = flat_map text_of (x ∷ xs) ∷ []

-- the named types, the globals, and then each definition and declaration
abbrev pub printed_module : Module → List ℕ
printed_module m =
    all_behind [] (group named_type_text m.types ++ (group global_text m.globals ++ function_texts m.declarations 0 m.declarations m.functions))
