use Rattle.std.proofs.Common.{◌∙◌, sym, ap}
use Rattle.ir_types.specs.Same.{same_ty}
use Rattle.ir_types.specs.declared.ty.Ty.{Ty, Ptr}
use Rattle.ir_typing.proofs.ShapeKinds.Pointers.{same_pointers}
use Rattle.ir_typing.proofs.shape_kinds.kinds.points_to.Goals as goal

pub returns-in-Ptr : goal.returns-in-Ptr
returns-in-Ptr c =
    c.is_same_ty.ensures ∙ ap (λ (t : Ty). same_ty t c.args.ty.now) c.get.ensures ∙ same_pointers _ c.args.ty.now ∙ sym (ap (λ (t : Ty). same_ty t (Ptr c.args.ty.now)) c.in-Ptr.is)
