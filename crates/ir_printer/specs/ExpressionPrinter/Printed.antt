-- How names, types, numbers and expressions are printed (LangRef 3.7, Identifiers, Type System, Constants).
use Rattle.std.specs.Prelude.{ℕ, ◌-◌, ◌/◌, ◌%◌, ◌^◌, ◌==◌, ◌&&◌, Bool, true, not, nat_le, nat_lt, if◌then◌else◌, List, [], ◌∷◌, ◌++◌, Option, None, Some, codes}
use Rattle.std.specs.List.{flat_map}
use Rattle.std.specs.Fmt.{decimal, digit_glyph}
use Rattle.ir_types.specs.declared.names.Name.{Name}
use Rattle.ir_types.specs.declared.names.Name.TheVariants.{Text, Number}
use Rattle.ir_types.specs.declared.names.Sigil.{Sigil}
use Rattle.ir_types.specs.declared.names.Sigil.TheVariants.{Local, Global}
use Rattle.ir_types.specs.declared.ty.Ty.{Ty, Int, fold-Ty}
use Rattle.ir_types.specs.declared.ty.Ty.TheOpen.{Ty-F}
use Rattle.ir_types.specs.declared.ty.Ty.TheOpen as ty
use Rattle.ir_types.specs.Folded.{folded}
use Rattle.ir_core.specs.declared.operands.Const.{Const, fold-Const}
use Rattle.ir_core.specs.declared.operands.Const.TheVariants as const
use Rattle.ir_core.specs.declared.operands.Const.TheOpen.{Const-F}
use Rattle.ir_core.specs.declared.operands.Const.TheOpen as part
use Rattle.ir_core.specs.declared.operands.Atom.{Atom}
use Rattle.ir_core.specs.declared.operands.Atom.TheVariants.{Constant, Register}
use Rattle.ir_core.specs.declared.operands.Operand.{Operand}
use Rattle.ir_core.specs.declared.operands.BinOp.{BinOp}
use Rattle.ir_core.specs.declared.operands.Flags.{Flags}
use Rattle.ir_core.specs.declared.expressions.Reg.{Reg}
use Rattle.ir_core.specs.declared.expressions.Reg.TheVariants.{Now, Old, Ghost}
use Rattle.ir_core.specs.declared.expressions.Binary.{Binary}
use Rattle.ir_core.specs.declared.expressions.Icmp.{Icmp}
use Rattle.ir_core.specs.declared.expressions.Cast.{Cast}
use Rattle.ir_core.specs.declared.expressions.Select.{Select}
use Rattle.ir_core.specs.declared.expressions.Element.{Element}
use Rattle.ir_core.specs.declared.expressions.Load.{Load}
use Rattle.ir_core.specs.declared.expressions.Expr.{Expr}
use Rattle.ir_core.specs.declared.expressions.Expr.TheVariants as expr
use Rattle.ir_core.specs.Names.{is_plain}
use Rattle.ir_core.specs.Words.{void_word, false_word, true_word, undef_word, null_word, op_word, nuw_word, nsw_word, exact_word, icmp_word, pred_word, cast_word, select_word, getelementptr_word, inbounds_word, load_word, align_word}

-- ---- names

-- the last hexadecimal digit of a number
abbrev pub hexadecimal_digit : ℕ → ℕ
hexadecimal_digit n = digit_glyph true (n % 16)

-- what a byte is between quotes: itself, or `\` and two hexadecimal digits
abbrev pub escaped : ℕ → List ℕ
escaped b = if nat_le 32 b && nat_le b 126 && not (b == 34) && not (b == 92) then b ∷ [] else 92 ∷ hexadecimal_digit (b / 16) ∷ hexadecimal_digit b ∷ []

abbrev pub quoted : List ℕ → List ℕ
quoted bytes = 34 ∷ (flat_map escaped bytes ++ 34 ∷ [])

-- `%` or `@`
abbrev pub sigil_byte : Sigil → ℕ
sigil_byte Local = 37
sigil_byte Global = 64

abbrev pub name_text : Name → List ℕ
name_text (Text bytes) = if is_plain bytes then bytes else quoted bytes
name_text (Number n) = decimal n

abbrev pub printed_name : Sigil → Name → List ℕ
printed_name sigil name = sigil_byte sigil ∷ name_text name

-- ---- types and constants

-- texts one after the other, with this before the first and a comma before each further one
abbrev pub listed : List ℕ → List (List ℕ) → List ℕ
listed before [] = []
listed before (text ∷ more) = before ++ text ++ listed (codes ", ") more

-- `{ i32, i8* }`, of the texts of its fields
abbrev pub struct_text : List (List ℕ) → List ℕ
struct_text [] = codes "{}"
struct_text (field ∷ more) = listed (codes "{ ") (field ∷ more) ++ codes " }"

-- a type, of the texts of its parts: `iN`, `T*`, `[4 x T]`, a struct, `%name` and `void`
abbrev pub type_text : Ty-F (List ℕ) → List ℕ
type_text (ty.Int width) = 105 ∷ decimal width
type_text (ty.Ptr target) = target ++ 42 ∷ []
type_text (ty.Array count element) = 91 ∷ decimal count ++ codes " x " ++ element ++ 93 ∷ []
type_text (ty.Struct fields) = struct_text fields
type_text (ty.Named x) = printed_name Local x
type_text ty.Void = void_word

abbrev pub printed_type : Ty → List ℕ
printed_type = folded type_text

abbrev pub printed_parts : Ty → List ℕ
printed_parts = fold-Ty (List ℕ) type_text

-- A number of so many bits is printed as a signed one: it is negative where its highest bit is set.
abbrev pub is_negative : ℕ → ℕ → Bool
is_negative width n = nat_le (2 ^ (width - 1)) n && nat_lt n (2 ^ width)

abbrev pub signed_text : ℕ → ℕ → List ℕ
signed_text width n = if is_negative width n then 45 ∷ decimal (2 ^ width - n) else decimal n

-- a number of one bit is a truth value
abbrev pub number_text : Ty → ℕ → List ℕ
number_text (Int width) n = if width == 1 then (if n == 0 then false_word else true_word) else signed_text width n
number_text t n = decimal n

-- a word and a space
abbrev pub spaced : List ℕ → List ℕ
spaced word = word ++ 32 ∷ []

abbrev pub printed_flag : Bool → List ℕ → List ℕ
printed_flag set word = if set then spaced word else []

-- a constant behind its type, of its text at a type: `i32 1`
abbrev pub typed_text : Ty × (Ty → List ℕ) → List ℕ
typed_text c = printed_type c.0 ++ 32 ∷ c.1 c.0

-- the same behind a comma
abbrev pub further_text : Ty × (Ty → List ℕ) → List ℕ
further_text c = codes ", " ++ typed_text c

abbrev pub element_word : Bool → List ℕ
element_word inbounds = spaced getelementptr_word ++ printed_flag inbounds inbounds_word

-- `getelementptr inbounds ([4 x i8]`
abbrev pub element_head : Bool → Ty → List ℕ
element_head inbounds of = element_word inbounds ++ 40 ∷ printed_type of

-- A constant at the type that is stated for it, of the texts of those in it: `getelementptr inbounds ([4 x i8], [4 x i8]* @s, i32 0)`,
-- `bitcast (i32* @g to i8*)`.
abbrev pub constant_text : Const-F (Ty → List ℕ) → Ty → List ℕ
constant_text (part.Number n) t = number_text t n
constant_text part.Undef t = undef_word
constant_text part.Null t = null_word
constant_text (part.Global x) t = printed_name Global x
constant_text (part.Element e) t =
    element_head e.0 e.1 ++ flat_map further_text e.2 ++ 41 ∷ []
constant_text (part.Cast c) t = codes "bitcast (" ++ flat_map typed_text c.1 ++ codes " to " ++ printed_type c.0 ++ 41 ∷ []

abbrev pub constant_parts : Const → Ty → List ℕ
constant_parts = fold-Const (Ty → List ℕ) constant_text

-- one without constants in it is printed at once
abbrev pub printed_constant : Ty → Const → List ℕ
printed_constant ty (const.Number n) = number_text ty n
printed_constant ty const.Undef = undef_word
printed_constant ty const.Null = null_word
printed_constant ty (const.Global x) = printed_name Global x
printed_constant ty c = constant_parts c ty

-- ---- operands and expressions

-- a register of a function
abbrev pub printed_local : Name → List ℕ
printed_local name = printed_name Local name

-- a register of the logic
abbrev pub printed_register : Reg → List ℕ
printed_register (Now name) = printed_local name
printed_register (Old name) = codes "old " ++ printed_local name
printed_register (Ghost name) = codes "ghost " ++ printed_local name

-- An atom without its type. This and what follows are over whatever registers there are, by what a register is printed as.
abbrev pub printed_atom : {R : Type 0} → (R → List ℕ) → Ty → Atom R → List ℕ
printed_atom register ty (Constant c) = printed_constant ty c
printed_atom register ty (Register r) = register r

-- an atom of a function
abbrev pub printed_value : Ty → Atom Name → List ℕ
printed_value ty atom = printed_atom printed_local ty atom

abbrev pub printed_operand : {R : Type 0} → (R → List ℕ) → Operand R → List ℕ
printed_operand register operand = printed_type operand.ty ++ 32 ∷ printed_atom register operand.ty operand.atom

abbrev pub printed_op : BinOp → List ℕ
printed_op op = spaced (op_word op)

abbrev pub printed_flags : Flags → List ℕ
printed_flags flags = printed_flag flags.nuw nuw_word ++ (printed_flag flags.nsw nsw_word ++ printed_flag flags.exact exact_word)

-- the type, which stands once, and the two operands
abbrev pub printed_operands : {R : Type 0} → (R → List ℕ) → Ty → Atom R → Atom R → List ℕ
printed_operands register ty a b = printed_type ty ++ (32 ∷ (printed_atom register ty a ++ (codes ", " ++ printed_atom register ty b)))

-- `add nuw i8 %x, 1`, `udiv exact i8 %x, %y`
abbrev pub printed_binary : {R : Type 0} → (R → List ℕ) → Binary R → List ℕ
printed_binary register b = printed_op b.op ++ (printed_flags b.flags ++ printed_operands register b.ty b.left b.right)

-- `icmp ult i8 %x, 4`
abbrev pub printed_icmp : {R : Type 0} → (R → List ℕ) → Icmp R → List ℕ
printed_icmp register c = spaced icmp_word ++ (spaced (pred_word c.pred) ++ printed_operands register c.ty c.left c.right)

-- `zext i8 %x to i16`
abbrev pub printed_cast : {R : Type 0} → (R → List ℕ) → Cast R → List ℕ
printed_cast register c = spaced (cast_word c.op) ++ (printed_operand register c.operand ++ (codes " to " ++ printed_type c.to))

-- `select i1 %c, i8 %x, i8 1`
abbrev pub printed_select : {R : Type 0} → (R → List ℕ) → Select R → List ℕ
printed_select register s =
    spaced select_word ++ (printed_operand register s.condition
    ++ (codes ", " ++ (printed_operand register s.left ++ (codes ", " ++ printed_operand register s.right))))

-- each of the operands behind a comma
abbrev pub further_operands : {R : Type 0} → (R → List ℕ) → List (Operand R) → List ℕ
further_operands register = flat_map (λ operand. codes ", " ++ printed_operand register operand)

-- `getelementptr inbounds i8, i8* %p, i32 1`
abbrev pub printed_element : {R : Type 0} → (R → List ℕ) → Element R → List ℕ
printed_element register e =
    spaced getelementptr_word ++ (printed_flag e.inbounds inbounds_word ++ (printed_type e.of ++ further_operands register (e.base ∷ e.indices)))

-- nothing where none is stated
abbrev pub printed_align : Option ℕ → List ℕ
printed_align None = []
printed_align (Some n) = codes ", " ++ (spaced align_word ++ decimal n)

-- `load i32, i32* %p, align 4`
abbrev pub printed_load : {R : Type 0} → (R → List ℕ) → Load R → List ℕ
printed_load register l =
    spaced load_word ++ (printed_type l.of ++ (codes ", " ++ (printed_operand register l.pointer ++ printed_align l.align)))

-- the right side of a line, or an expression of the logic
abbrev pub printed_expr : {R : Type 0} → (R → List ℕ) → Expr R → List ℕ
printed_expr register (expr.Plain operand) = printed_operand register operand
printed_expr register (expr.Binary binary) = printed_binary register binary
printed_expr register (expr.Icmp icmp) = printed_icmp register icmp
printed_expr register (expr.Cast cast) = printed_cast register cast
printed_expr register (expr.Select select) = printed_select register select
printed_expr register (expr.Element element) = printed_element register element
printed_expr register (expr.Load load) = printed_load register load
