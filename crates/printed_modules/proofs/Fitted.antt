-- Printed types, values and operands that fit are written ones that name them.
use Rattle.std.proofs.Common.{List, [], ◌∷◌, refl}
use Rattle.ir_core.specs.declared.modules.Module.{Module}
use Rattle.ir_core.specs.declared.operands.Atom.{Atom}
use Rattle.ir_core.specs.declared.operands.Atom.TheVariants.{Constant, Register}
use Rattle.ir_core.specs.declared.operands.Operand.{Operand}
use Rattle.ir_types.specs.declared.names.Name.{Name}
use Rattle.ir_types.specs.declared.ty.Ty.{Ty}
use Rattle.ir_printer.specs.ExpressionPrinter.Printed.{printed_local, printed_operand, printed_type, printed_value}
use Rattle.module_grammar.specs.declared.constants.OperandText.{OperandText}
use Rattle.module_grammar.specs.declared.constants.ValueText.{ValueText}
use Rattle.module_grammar.specs.declared.places.Placed.{Placed}
use Rattle.module_grammar.specs.declared.types.TypeText.{TypeText}
use Rattle.module_grammar.specs.declared.words.Language.TheVariants.{Ir}
use Rattle.module_grammar.specs.Constants as constants
use Rattle.module_grammar.specs.Symbols.{Local}
use Rattle.module_grammar.specs.Types.{ty}
use Rattle.named_modules.specs.Values.{IsLabel, IsOperand, IsType, IsValue, IsValueType, Registers}
use Rattle.printed_modules.proofs.Fit.{FitsAtom, FitsLabel, FitsOperand, FitsType, FitsValueType}
use Rattle.printed_tokens.proofs.Marks as marks
use Rattle.printed_tokens.proofs.ModuleTypes as types
use Rattle.printed_tokens.proofs.ModuleTypes.{HasNames}
use Rattle.printed_tokens.proofs.Prints.{Prints, read_as}
use Rattle.printed_tokens.proofs.ReadTexts.{Stops}
use Rattle.printed_tokens.proofs.Values as values

module _ (m : Module) (names : HasNames m) where
  pub type : (t : Ty) → FitsType m t → Prints Ir Stops ty (λ (w : TypeText). IsType m w t) (printed_type t)
  type t fits = types.module_type m Ir names t fits.0 fits.1

  pub value_type : (t : Ty) → FitsValueType m t → Prints Ir Stops ty (λ (w : TypeText). IsValueType m w t) (printed_type t)
  value_type t fits = types.value_type m Ir names t fits.0.0 fits.0.1 fits.1

  module _ (rs : Registers) (labels : List Name) where
    atom_fits : (t : Ty) (a : Atom Name) → FitsAtom m rs labels t a → values.FitsValue m rs t a
    atom_fits t (Constant c) fits = (fits.written, fits.typed, fits.types)
    atom_fits t (Register x) fits = fits

    pub value : (t : Ty) (a : Atom Name) → FitsValueType m t → FitsAtom m rs labels t a
        → Prints Ir Stops constants.value (λ (w : ValueText). IsValue m rs t w a) (printed_value t a)
    value t a typed fits = values.value m Ir names rs t a typed.0.0 (atom_fits t a fits)

    pub operand : (o : Operand Name) → FitsOperand m rs labels o
        → Prints Ir Stops constants.operand (λ (w : OperandText). IsOperand m rs w o) (printed_operand printed_local o)
    operand o fits = values.operand m Ir names rs o fits.0.0.0 fits.0.0.1 fits.0.1 (atom_fits o.ty o.atom fits.1)

    pub label : (x : Name) → FitsLabel m rs labels x → Prints Ir Stops (λ w. Local w ∷ []) (λ (w : Placed Name). IsLabel labels w x) (printed_local x)
    label x fits = read_as Ir (λ w. Local w ∷ []) (λ (w : Placed Name). IsLabel labels w x) (λ t. t) (λ t named. refl) (λ t named. (fits.1, named)) (marks.local Ir x fits.0)
