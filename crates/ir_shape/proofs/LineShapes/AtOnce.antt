-- What is wrong with a line that gets an address, with which it is seen at once that nothing is wrong but for its operands.
use Rattle.std.proofs.Common.{◌≡◌, ◌∙◌, ◌&&◌, ◌∷◌, ◌++◌, Bool, List, None, Option, sym, ap}
use Rattle.std.specs.List.{flat_map}
use Rattle.ir_core.specs.declared.expressions.Element.{Element}
use Rattle.ir_core.specs.declared.modules.Module.{Module}
use Rattle.ir_core.specs.StatedTypes.{stated_by_atom, stated_by_line, stated_by_operand}
use Rattle.ir_types.specs.declared.names.Name.{Name}
use Rattle.ir_typing.specs.OperandTests.Addresses.{FitsAtOnce}
use Rattle.ir_typing.specs.OperandTests.Constants.{element_kind}
use Rattle.ir_typing.specs.OperandTests.Known.{are_types_known, is_type_known}
use Rattle.ir_typing.proofs.OperandTests.Least.{least_none}
use Rattle.ir_typing.specs.declared.shape_kinds.kind.ShapeKind.{ShapeKind}
use Rattle.ir_typing.specs.declared.shape_kinds.kind.ShapeKind.TheVariants as kind
use Rattle.ir_typing.specs.ShapeKinds.Kinds.{fault_unless, least}
use Rattle.ir_typing.specs.ShapeKinds.Typed.{Types}
use Rattle.ir_shape.specs.LineShapes.Addressed.{addressing}
use Rattle.ir_shape.specs.LineShapes.Told.{line_kind, operands_kind, rest_kind}

module _ (m : Module) (name : Name) (e : Element Name) (fits : FitsAtOnce m e) where
  -- the types of its operands, but for the base's
  abbrev parts_known : Bool
  parts_known = are_types_known m (stated_by_atom e.base.atom ++ flat_map stated_by_operand e.indices)

  stated : are_types_known m (stated_by_line (addressing name e)) ≡ parts_known
  stated = ap (λ b. b && (is_type_known m e.base.ty && parts_known)) fits.known ∙ ap (λ b. b && parts_known) fits.based

  rest : rest_kind m (addressing name e) ≡ None
  rest = ap (λ b. least (fault_unless b kind.OperandType) (least None (element_kind m e))) fits.leads ∙ fits.fits

  pub judged_at_once : (types : Types) (new known : Bool) (operands : Option ShapeKind) → known ≡ parts_known → operands ≡ operands_kind m types (e.base ∷ e.indices)
      → least (fault_unless (new && known) kind.Name) operands ≡ line_kind m types new (addressing name e)
  judged_at_once types new known operands is found =
      let all = are_types_known m (stated_by_line (addressing name e)) in
      let own = operands_kind m types (e.base ∷ e.indices) in
      ap (λ b. least (fault_unless (new && b) kind.Name) operands) (is ∙ sym stated)
      ∙ ap (λ o. least (fault_unless (new && all) kind.Name) o) (found ∙ sym (ap (least own) rest ∙ least_none own))
