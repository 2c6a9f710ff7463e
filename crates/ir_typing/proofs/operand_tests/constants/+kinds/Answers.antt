use Rattle.std.proofs.Common.{◌∙◌, Bool, sym, ap}
use Rattle.ir_core.specs.declared.operands.Const.{Const}
use Rattle.ir_types.specs.declared.ty.Ty.{Ty}
use Rattle.ir_typing.specs.declared.shape_kinds.kind.ShapeKind.TheVariants as kind
use Rattle.ir_typing.specs.ShapeKinds.Kinds.{fault_unless}
use Rattle.ir_typing.specs.OperandTests.Constants.{constant_kind}
use Rattle.ir_typing.proofs.OperandTests.Judged.{cast_found, element_found}
use Rattle.ir_typing.proofs.OperandTests.Least.{one_more}
use Rattle.ir_typing.proofs.operand_tests.constants.+kinds.Goals as goal

pub whole_kind-returns-in-Element : goal.whole_kind-returns-in-Element
whole_kind-returns-in-Element t c =
    let m = c.args.beside.now in
    let ty = c.args.ty.now in
    element_found m ty c.in-Element.element c.get-element.result.now c.as_slice-parts.result.now _ _ _ c.get-element.ensures c.as_slice-parts.ensures
    c.parts_kind-inside.ensures c.address_kind.ensures c.least.ensures ∙ sym (ap (constant_kind m ty) c.in-Element.is)

pub whole_kind-returns-in-Cast : goal.whole_kind-returns-in-Cast
whole_kind-returns-in-Cast t c =
    let m = c.args.beside.now in
    let ty = c.args.ty.now in
    cast_found m ty c.in-Cast.cast c.get-cast.result.now c.as_slice-parts-in-Cast.result.now _ _ _ _ _ c.get-cast.ensures c.as_slice-parts-in-Cast.ensures
    c.parts_kind-inside-in-Cast.ensures (c.fault_unless-kept.ensures ∙ ap (λ (same : Bool). fault_unless same kind.OperandType) c.same_ty.ensures) c.recast_kind.ensures c.least-in-Cast.ensures c.least-in-Cast-2.ensures
    ∙ sym (ap (constant_kind m ty) c.in-Cast.is)

pub parts_kind-loop-part-preserved : goal.parts_kind-loop-part-preserved
parts_kind-loop-part-preserved t c =
    one_more (λ (p : Ty × Const). constant_kind c.args.beside.now p.0 p.1) c.loop-part.kind _ _ _ c.args.parts.now c.loop-part.part-index c.part-item.result c.loop-part-test.true
    c.part-item.is c.whole_kind.ensures c.least-kind.ensures c.loop-part.invariant
