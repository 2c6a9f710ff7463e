-- Names, types at their places, values and operands that are named are in range where what is written of them is.
use Rattle.std.proofs.Common.{◌≡◌, ℕ, Bool, true, false, cond, nat_eq, Option, Some, None, refl, sym, ap, subst}
use Rattle.ir_core.specs.Ranges.{IsAlignInRange, IsAtomInRange, IsCountInRange, IsNameInRange, IsOperandInRange, IsResultInRange, IsTypeInRange, constant_written}
use Rattle.ir_core.specs.Types.{constant_fits}
use Rattle.ir_core.specs.declared.modules.Module.{Module}
use Rattle.ir_core.specs.declared.operands.Atom.{Atom}
use Rattle.ir_core.specs.declared.operands.Atom.TheVariants.{Constant, Register}
use Rattle.ir_core.specs.declared.operands.Const.TheVariants as constant
use Rattle.ir_core.specs.declared.operands.Operand.{Operand}
use Rattle.ir_lexer.specs.declared.token.Number as lexed
use Rattle.ir_types.specs.declared.names.Name.{Name}
use Rattle.ir_types.specs.declared.names.Name.TheVariants as name
use Rattle.ir_types.specs.declared.ty.Ty.{Ty}
use Rattle.module_grammar.specs.Constants as write
use Rattle.module_grammar.specs.Types as types
use Rattle.module_grammar.specs.declared.constants.GlobalNameText.{GlobalNameText}
use Rattle.module_grammar.specs.declared.constants.GlobalNameText.TheVariants as global
use Rattle.module_grammar.specs.declared.constants.OperandText.{OperandText}
use Rattle.module_grammar.specs.declared.constants.ValueText.{ValueText}
use Rattle.module_grammar.specs.declared.constants.ValueText.TheVariants as text
use Rattle.module_grammar.specs.declared.lines.CountText.{CountText}
use Rattle.module_grammar.specs.declared.places.Placed.{Placed}
use Rattle.module_grammar.specs.declared.types.TypeText.{TypeText}
use Rattle.named_modules.proofs.Lists.{all_left, all_right}
use Rattle.named_modules.specs.Constants.{global_name}
use Rattle.named_modules.specs.Lines.{IsCount, IsCountOf, IsResult}
use Rattle.named_modules.specs.Types.{int_of, type_of}
use Rattle.named_modules.specs.Values.{IsAlign, IsAlignOf, IsNamed, IsOperand, IsValue, Registers}
use Rattle.module_texts.proofs.SpelledLimits.ConstantRanges.{atom_in_range, const_range}
use Rattle.module_texts.proofs.SpelledLimits.NumberRanges.{int_fits}
use Rattle.module_texts.proofs.SpelledLimits.SymbolRanges.{AllInRange, IsSymbolInRange}
use Rattle.module_texts.proofs.SpelledLimits.TypeRanges.{IsTypeWritten, result_in_range, type_range}

-- ---- names

-- a name that is written is in range
abbrev pub IsOptionInRange : Option (Placed Name) → Type 0
IsOptionInRange None = Unit {0}
IsOptionInRange (Some w) = IsNameInRange w.what

pub named_range : (w : Option (Placed Name)) (x : Name) → IsOptionInRange w → IsNamed w x → IsNameInRange x
named_range None (name.Number n) range is = is
named_range None (name.Text bytes) range is = absurd is
named_range (Some written) x range is = subst IsNameInRange (sym is) range

pub global_range : (g : GlobalNameText) → IsSymbolInRange (write.global_name g) → IsNameInRange (global_name g).what
global_range (global.Plain x) range = range
global_range (global.Debug x) range = range

-- ---- types at their places

pub type_there : (w : TypeText) (t : Ty) → IsTypeWritten w → t ≡ type_of w → IsTypeInRange t
type_there w t all is = subst IsTypeInRange (sym is) (type_range w all)

pub result_there : (m : Module) (w : Option TypeText) (t : Ty) → AllInRange (types.result w) → IsResult m w t → IsResultInRange t
result_there m None t all is = subst IsResultInRange (sym is) tt
result_there m (Some w) t all is = result_in_range t (type_there w t all is.0)

-- ---- values

pub value_range : (m : Module) (rs : Registers) (t : Ty) (w : ValueText) (a : Atom Name) → AllInRange (write.value w) → IsValue m rs t w a → IsAtomInRange t a
value_range m rs t (text.Const w) (Constant c) all is =
    atom_in_range t c (subst (λ c. constant_written t c ≡ true) (sym is.0) (const_range m w t all is.1))
value_range m rs t (text.Local w) (Register x) all is = tt
value_range m rs t (text.Const w) (Register x) all is = absurd is
value_range m rs t (text.Local w) (Constant c) all is = absurd is
value_range m rs t (text.Tagged tag w) a all is = absurd is

pub operand_range : (m : Module) (rs : Registers) (w : OperandText) (o : Operand Name) → AllInRange (write.operand w) → IsOperand m rs w o → IsOperandInRange o
operand_range m rs w o all is = (
  type_there w.ty o.ty (all_left IsSymbolInRange (types.ty w.ty) (write.value w.value) all) is.0.0,
  value_range m rs o.ty w.value o.atom (all_right IsSymbolInRange (types.ty w.ty) (write.value w.value) all) is.1,
)

-- ---- alignments and counts

align_of_range : (n : lexed.Number) (align : Option ℕ) → IsAlignOf n align → IsAlignInRange align
align_of_range n None is = tt
align_of_range n (Some align) is = is.2

pub align_range : (w : Option (Placed lexed.Number)) (align : Option ℕ) → IsAlign w align → IsAlignInRange align
align_range None align is = subst IsAlignInRange (sym is) tt
align_range (Some n) align is = align_of_range n.what align is

-- a count that isn't 1
kept_count : (b : Bool) (n : ℕ) (t : Ty) → nat_eq n 1 ≡ b → IsTypeInRange t → constant_fits t (constant.Number n) ≡ true → IsCountInRange (cond b None (Some (t, n)))
kept_count true n t e typed fits = tt
kept_count false n t e typed fits = (typed, fits, λ one. let yes : nat_eq n 1 ≡ true = ap (λ k. nat_eq k 1) one in cc)

count_of_range : (o : Option ℕ) (t : Ty) (count : Option (Ty × ℕ)) → IsTypeInRange t → ((n : ℕ) → o ≡ Some n → constant_fits t (constant.Number n) ≡ true) → IsCountOf o t count → IsCountInRange count
count_of_range None t count typed fits is = absurd is
count_of_range (Some n) t count typed fits is = subst IsCountInRange (sym is) (kept_count (nat_eq n 1) n t refl typed (fits n refl))

-- the type that is written of a count
abbrev pub IsCountWritten : Option CountText → Type 0
IsCountWritten None = Unit {0}
IsCountWritten (Some w) = IsTypeWritten w.ty

pub count_range : (m : Module) (w : Option CountText) (count : Option (Ty × ℕ)) → IsCountWritten w → IsCount m w count → IsCountInRange count
count_range m None count all is = subst IsCountInRange (sym is) tt
count_range m (Some w) count all is =
    count_of_range (int_of (type_of w.ty) w.number) (type_of w.ty) count (type_range w.ty all) (int_fits w.number (type_of w.ty)) is.1
