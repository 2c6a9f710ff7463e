-- What names, values and alignments name where they stand in a function (LangRef 3.7, Identifiers, First Class Types).
use Rattle.std.specs.Prelude.{◌≡◌, ℕ, Bool, true, false, List, Option, None, Some}
use Rattle.std.specs.List.{Contains, list_any}
use Rattle.ir_core.specs.declared.functions.Extensions.{Extensions}
use Rattle.ir_core.specs.declared.modules.Module.{Module}
use Rattle.ir_core.specs.declared.operands.Atom.{Atom}
use Rattle.ir_core.specs.declared.operands.Atom.TheVariants.{Constant, Register}
use Rattle.ir_core.specs.declared.operands.Operand.{Operand}
use Rattle.ir_core.specs.Ranges.{IsAlignInRange, IsNameInRange}
use Rattle.ir_lexer.specs.declared.token.Number.{Number}
use Rattle.ir_types.specs.declared.names.Name.{Name}
use Rattle.ir_types.specs.declared.names.Name.TheVariants as name
use Rattle.ir_types.specs.declared.ty.Ty.{Ty}
use Rattle.module_grammar.specs.declared.attributes.ParamAttributeText.{ParamAttributeText}
use Rattle.module_grammar.specs.declared.attributes.ParamAttributeText.TheVariants as attribute
use Rattle.module_grammar.specs.declared.constants.OperandText.{OperandText}
use Rattle.module_grammar.specs.declared.constants.ValueText.{ValueText}
use Rattle.module_grammar.specs.declared.constants.ValueText.TheVariants as text
use Rattle.module_grammar.specs.declared.operators.ExtensionWord.TheVariants.{Signed, Zero}
use Rattle.module_grammar.specs.declared.places.Placed.{Placed}
use Rattle.module_grammar.specs.declared.types.TypeText.{TypeText}
use Rattle.named_modules.specs.Constants.{IsConst}
use Rattle.named_modules.specs.Types.{is_type, is_value_type, type_of}

-- A thing has the name that is written. Where none is, its name is a number; the count says which one.
abbrev pub IsNamed : Option (Placed Name) → Name → Type 0
IsNamed None (name.Number n) = IsNameInRange (name.Number n)
IsNamed None (name.Text bytes) = ⊥
IsNamed (Some written) x = x ≡ written.what

-- ---- types at their places

abbrev pub IsType : Module → TypeText → Ty → Type 0
IsType m w t = (t ≡ type_of w) × (is_type m w ≡ true)

abbrev pub IsValueType : Module → TypeText → Ty → Type 0
IsValueType m w t = (t ≡ type_of w) × (is_value_type m w ≡ true)

-- ---- values

-- what is told of a function's registers: the name of each, and its type, if it has one
abbrev pub Registers : Type 0
Registers = List (Name × Option Ty)

-- it has no type that another could differ from, or is of this one
abbrev pub MayBe : Option Ty → Ty → Type 0
MayBe None t = Unit {0}
MayBe (Some own) t = own ≡ t

abbrev pub IsRegister : Registers → Ty → Name → Type 0
IsRegister rs t x = (own : Option Ty) × Contains rs (x, own) × MayBe own t

-- A value at the type that is stated for it. A register may be used before the line that sets it; one with a tag is no value of a module.
abbrev pub IsValue : Module → Registers → Ty → ValueText → Atom Name → Type 0
IsValue m rs t (text.Const w) (Constant c) = IsConst m t w c
IsValue m rs t (text.Local w) (Register x) = (x ≡ w.what) × IsRegister rs t x
IsValue m rs t w a = ⊥

-- `i8 %x`
abbrev pub IsOperand : Module → Registers → OperandText → Operand Name → Type 0
IsOperand m rs w o = IsValueType m w.ty o.ty × IsValue m rs o.ty w.value o.atom

-- a label that is used is one of the function's
abbrev pub IsLabel : List Name → Placed Name → Name → Type 0
IsLabel labels w x = Contains labels x × (x ≡ w.what)

-- ---- alignments and attributes

-- An alignment is a power of two, 2^29 at most. `align 0` says what no alignment says.
abbrev pub IsAlignOf : Number → Option ℕ → Type 0
IsAlignOf n None = n.magnitude ≡ 0
IsAlignOf n (Some align) = (n.negative ≡ false) × (align ≡ n.magnitude) × IsAlignInRange (Some align)

abbrev pub IsAlign : Option (Placed Number) → Option ℕ → Type 0
IsAlign None align = align ≡ None
IsAlign (Some n) align = IsAlignOf n.what align

abbrev pub is_signed : ParamAttributeText → Bool
is_signed (attribute.Extension Signed) = true
is_signed other = false

abbrev pub is_zeroed : ParamAttributeText → Bool
is_zeroed (attribute.Extension Zero) = true
is_zeroed other = false

-- `signext` and `zeroext` are kept, as a set; the other attributes play no part
abbrev pub extensions_of : List ParamAttributeText → Extensions
extensions_of attributes = record { signed = list_any is_signed attributes; zero = list_any is_zeroed attributes }
