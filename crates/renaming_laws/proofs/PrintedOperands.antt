-- Printed types, values and operands of expressions are the symbols of what is built as them, in range and within the limit on depths.
use Rattle.std.proofs.Common.{◌≡◌, ◌∙◌, List, [], ◌∷◌, ◌++◌, append_assoc, refl, ap, sym, arith}
use Rattle.ir_core.specs.declared.expressions.Reg.{Reg}
use Rattle.ir_core.specs.declared.expressions.Reg.TheVariants.{Ghost, Now, Old}
use Rattle.ir_core.specs.declared.modules.Module.{Module}
use Rattle.ir_core.specs.declared.operands.Atom.{Atom}
use Rattle.ir_core.specs.declared.operands.Atom.TheVariants.{Constant, Register}
use Rattle.ir_core.specs.declared.operands.Operand.{Operand}
use Rattle.ir_core.specs.Depths.{depth_of, depth_of_constant}
use Rattle.ir_core.specs.Limits.{depth_limit}
use Rattle.ir_core.specs.Ranges.{IsNameInRange}
use Rattle.ir_types.specs.declared.names.Name.{Name}
use Rattle.ir_types.specs.declared.ty.Ty.{Ty}
use Rattle.ir_printer.specs.ExpressionPrinter.Printed.{printed_atom, printed_local, printed_operand, printed_operands, printed_register, printed_type, spaced}
use Rattle.module_grammar.specs.declared.constants.OperandText.{OperandText}
use Rattle.module_grammar.specs.declared.constants.Tag.{Tag}
use Rattle.module_grammar.specs.declared.constants.Tag.TheVariants as tags
use Rattle.module_grammar.specs.declared.constants.ValueText.{ValueText}
use Rattle.module_grammar.specs.declared.constants.ValueText.TheVariants as text
use Rattle.module_grammar.specs.declared.types.TypeText.{TypeText}
use Rattle.module_grammar.specs.declared.words.Language.TheVariants.{Logic}
use Rattle.module_grammar.specs.Constants as write
use Rattle.module_grammar.specs.Symbols.{Fixed, Symbol, key_number}
use Rattle.module_grammar.specs.Symbols as symbols
use Rattle.module_grammar.specs.Types.{ty}
use Rattle.module_walk.specs.LogicExpressions.{operand_of, tagged, value_at}
use Rattle.named_modules.specs.Types.{type_of}
use Rattle.expression_reader.specs.Ranges.{operand_faults, value_faults}
use Rattle.expression_reader.specs.Types.{count_faults}
use Rattle.printed_modules.proofs.Deep.{OperandFits, TypeFits, ValueFits}
use Rattle.printed_modules.proofs.DeepMade.{const_fits}
use Rattle.printed_tokens.proofs.Constants.{constant}
use Rattle.printed_tokens.proofs.Marks as marks
use Rattle.printed_tokens.proofs.Marks.{comma, space, word_and_space}
use Rattle.printed_tokens.proofs.ModuleTypes.{HasNames, known_in_range}
use Rattle.printed_tokens.proofs.Prints.{Prints, before, both, read_as}
use Rattle.printed_tokens.proofs.ReadTexts.{Stops}
use Rattle.printed_tokens.proofs.Types as types
use Rattle.printed_tokens.proofs.WordSymbols.{at_any, key_is, key_text, tag_key, tag_said}
use Rattle.renaming_laws.specs.HintLaws.{IsWritableAtom, IsWritableOperand, IsWritableRegister, IsWritableType}
use Rattle.renaming_laws.proofs.NoRanges.{no_counts, no_ranges, none}

-- ---- what is written

abbrev pub NamesType : Ty → TypeText → Type 0
NamesType t w = (type_of w ≡ t) × (count_faults w ≡ []) × TypeFits 0 depth_limit w

abbrev pub NamesValue : Ty → Atom Reg → ValueText → Type 0
NamesValue t a w = (value_at t w ≡ a) × (value_faults t w ≡ []) × ValueFits 0 depth_limit w

abbrev pub NamesOperand : OperandText → Operand Reg → Type 0
NamesOperand w o = NamesType o.ty w.ty × NamesValue o.ty o.atom w.value

-- a value at the type that is written before it
pub at_type : (w : TypeText) (t : Ty) (a : Atom Reg) (v : ValueText) → NamesType t w → NamesValue t a v
    → (value_at (type_of w) v ≡ a) × (value_faults (type_of w) v ≡ [])
at_type w t a v typed named = (ap (λ u. value_at u v) typed.0 ∙ named.0, ap (λ u. value_faults u v) typed.0 ∙ named.1)

abbrev pub made : Ty → Atom Reg → Operand Reg
made t a = record { ty = t; atom = a }

pub operand_is : (w : OperandText) (o : Operand Reg) → NamesOperand w o → operand_of w ≡ o
operand_is w o named =
    ap (λ t. made t (value_at (type_of w.ty) w.value)) named.0.0 ∙ ap (made o.ty) (at_type w.ty o.ty o.atom w.value named.0 named.1).0

pub operand_ranged : (w : OperandText) (o : Operand Reg) → NamesOperand w o → operand_faults w ≡ []
operand_ranged w o named =
    none (count_faults w.ty) (value_faults (type_of w.ty) w.value) named.0.1 (at_type w.ty o.ty o.atom w.value named.0 named.1).1

pub operand_fits : (w : OperandText) (o : Operand Reg) → NamesOperand w o → OperandFits 0 depth_limit w
operand_fits w o named = (named.0.2, named.1.2)

-- ---- registers

abbrev PrintsValue : Ty → Atom Reg → Type 0
PrintsValue t a = Prints Logic Stops write.value (NamesValue t a) (printed_atom printed_register t a)

tag_symbol : (tag : Tag) → Fixed (key_number (tag_key tag)) ≡ write.tag tag
tag_symbol tags.Old = refl
tag_symbol tags.Ghost = refl

-- a register behind its tag and a space
behind_tag : (t : Ty) (tag : Tag) (name : Name) → IsNameInRange name
    → Prints Logic Stops write.value (NamesValue t (Register (tagged tag name))) (spaced (key_text (tag_key tag)) ++ printed_local name)
behind_tag t tag name writable =
    read_as Logic write.value (NamesValue t (Register (tagged tag name))) (text.Tagged tag)
    (λ w named. ap (λ s. s ∷ write.value (text.Local w)) (tag_symbol tag))
    (λ w named. (ap (λ x. Register (tagged tag x)) (sym named), refl, tt))
    (before Logic (word_and_space Logic (key_text (tag_key tag)) (Fixed (key_number (tag_key tag))) (key_is (tag_key tag)) (at_any Logic (key_text (tag_key tag)) _ (tag_said tag)))
    (marks.local Logic name writable))

register : (t : Ty) (r : Reg) → IsWritableRegister r → PrintsValue t (Register r)
register t (Now name) writable =
    read_as Logic write.value (NamesValue t (Register (Now name))) text.Local (λ w named. refl) (λ w named. (ap (λ x. Register (Now x)) (sym named), refl, tt))
    (marks.local Logic name writable)
register t (Old name) writable = behind_tag t tags.Old name writable
register t (Ghost name) writable = behind_tag t tags.Ghost name writable

module _ (m : Module) (names : HasNames m) where
  pub type : (t : Ty) → IsWritableType m t → Prints Logic Stops ty (NamesType t) (printed_type t)
  type t fits =
      read_as Logic ty (NamesType t) (λ w. w) (λ w named. refl)
      (λ w named. (named.0, no_counts w named.1, (let same = ap depth_of named.0 in let deep = fits.2 in omega (arith, same, deep))))
      (types.type Logic t fits.0 (known_in_range m names.types t fits.1))

  value : (t : Ty) (a : Atom Reg) → IsWritableType m t → IsWritableAtom m t a → PrintsValue t a
  value t (Constant c) typed fits =
      read_as Logic write.value (NamesValue t (Constant c)) text.Const (λ w named. refl)
      (λ w named. (
        ap Constant (sym named.0),
        no_ranges m w t named.1,
        const_fits 0 depth_limit w t (let same = ap depth_of_constant named.0 in let deep = fits.3 in omega (arith, same, deep)),
      ))
      (constant m Logic names t c typed.0 fits.0 fits.1 fits.2)
  value t (Register r) typed fits = register t r fits

  pub operand : (o : Operand Reg) → IsWritableOperand m o → Prints Logic Stops write.operand (λ (w : OperandText). NamesOperand w o) (printed_operand printed_register o)
  operand o fits =
      read_as Logic write.operand (λ (w : OperandText). NamesOperand w o) (λ w. record { ty = w.0; value = w.1 }) (λ w named. refl) (λ w named. (named.0, named.1))
      (both Logic (type o.ty fits.0) (before Logic (space Logic) (value o.ty o.atom fits.0 fits.2)) (λ rest end. refl))

  -- ---- a type, and two values of it

  abbrev pub pair_written : OperandText × ValueText → List Symbol
  pair_written w = write.operand w.0 ++ (symbols.comma ∷ write.value w.1)

  abbrev pub NamesPair : Ty → Atom Reg → Atom Reg → OperandText × ValueText → Type 0
  NamesPair t a b w = NamesOperand w.0 (made t a) × NamesValue t b w.1

  pub pair : (t : Ty) (a b : Atom Reg) → IsWritableOperand m (made t a) → IsWritableOperand m (made t b)
      → Prints Logic Stops pair_written (NamesPair t a b) (printed_operands printed_register t a b)
  pair t a b left right =
      read_as Logic pair_written (NamesPair t a b) (λ w. (record { ty = w.0; value = w.1.0 }, w.1.1))
      (λ w named. sym (append_assoc (ty w.0) (write.value w.1.0) (symbols.comma ∷ write.value w.1.1))) (λ w named. ((named.0, named.1.0), named.1.1))
      (both Logic (type t left.0)
      (before Logic (space Logic) (both Logic (value t a left.0 left.2) (before Logic (comma Logic) (value t b right.0 right.2)) (λ rest end. refl)))
      (λ rest end. refl))
