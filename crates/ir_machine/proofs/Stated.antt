-- The types of the operands of an address that a line may state.
use Rattle.std.proofs.Common.{◌≡◌, ◌∙◌, Bool, true, List, map, Some, ap}
use Rattle.ir_types.specs.declared.named.NamedTy.{NamedTy}
use Rattle.ir_types.specs.declared.ty.Ty.{Ptr}
use Rattle.ir_types.specs.NameLaws.{left_true, right_true}
use Rattle.ir_types.specs.Same.{same_ty}
use Rattle.ir_types.proofs.SameLaws.{same_ty_true}
use Rattle.ir_core.specs.declared.expressions.Element.{Element as ElementOf}
use Rattle.ir_core.specs.declared.values.Kind.TheVariants as kind
use Rattle.ir_core.specs.Types.{kind_of}
use Rattle.ir_core.specs.Typing.{element_type, index_of, is_due}
use Rattle.ir_values.proofs.ConstantValues.{element_pointer, is_pointer_to, pointer_kind}
use Rattle.ir_values.proofs.ConstantWalks.{are_integers, element_integers}
use Rattle.ir_machine.specs.Registers.{is_stated}

module _ {R : Type 0} (types : List NamedTy) (e : ElementOf R) (stated : is_stated types e ≡ true) where
  abbrev leads : Bool
  leads = is_due (element_type types e.of (map index_of e.indices)) e.to

  pub indices_are_integers : are_integers (map index_of e.indices) ≡ true
  indices_are_integers = element_integers types e.of (map index_of e.indices) e.to (right_true (same_ty e.base.ty (Ptr e.of)) leads stated)

  pub base_kind : kind_of e.base.ty ≡ Some kind.Ptr
  base_kind = ap kind_of (same_ty_true e.base.ty (Ptr e.of) (left_true (same_ty e.base.ty (Ptr e.of)) leads stated)) ∙ pointer_kind (Ptr e.of) (is_pointer_to e.of)

  pub element_kind : kind_of e.to ≡ Some kind.Ptr
  element_kind = pointer_kind e.to (element_pointer types e.of (map index_of e.indices) e.to (right_true (same_ty e.base.ty (Ptr e.of)) leads stated))
