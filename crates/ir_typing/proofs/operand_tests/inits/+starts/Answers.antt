use Rattle.std.proofs.Common.{◌∙◌, ◌+◌, Option, drop, sym, ap}
use Rattle.ir_core.specs.declared.modules.Init.{Init}
use Rattle.ir_types.specs.declared.ty.Ty.{Ty}
use Rattle.ir_typing.specs.OperandTests.Inits.{init_kind}
use Rattle.ir_typing.specs.OperandTests.Starts.{are_elements, are_fields, parts_kind}
use Rattle.ir_typing.specs.declared.shape_kinds.kind.ShapeKind.{ShapeKind}
use Rattle.ir_typing.specs.ShapeKinds.Kinds.{least}
use Rattle.ir_typing.proofs.OperandTests.Least.{one_more}
use Rattle.ir_typing.proofs.OperandTests.Plain.{number_more}
use Rattle.ir_typing.proofs.OperandTests.Starts.{list_found, of_array, of_struct}
use Rattle.ir_typing.proofs.operand_tests.inits.+starts.Goals as goal
use Rattle.ir_typing.proofs.operand_tests.inits.+starts.Goals.{parts_kind-then-not-is_number, parts_kind-else-not-is_number}

pub init_kind-returns-in-Array : goal.init_kind-returns-in-Array
init_kind-returns-in-Array t c =
    let m = c.args.beside.now in
    let ty = c.args.ty.now in
    list_found m (are_elements ty) c.in-Array.elements c.as_slice-parts.result.now _ _ _ _ _ (c.as_slice-parts.ensures ∙ c.get.ensures) c.parts_kind-inside.ensures
    c.are_elements-stated.ensures c.fault_unless-in-Array.ensures c.least.ensures (of_array m ty c.in-Array.elements)
    ∙ sym (ap (init_kind m ty) c.in-Array.is)

pub init_kind-returns-in-Struct : goal.init_kind-returns-in-Struct
init_kind-returns-in-Struct t c =
    let m = c.args.beside.now in
    let ty = c.args.ty.now in
    list_found m (are_fields m.types ty) c.in-Struct.fields c.as_slice-parts-in-Struct.result.now _ _ _ _ _ (c.as_slice-parts-in-Struct.ensures ∙ c.get-in-Struct.ensures)
    c.parts_kind-inside-in-Struct.ensures c.are_fields-stated.ensures c.fault_unless-in-Struct.ensures c.least-in-Struct.ensures (of_struct m ty c.in-Struct.fields)
    ∙ sym (ap (init_kind m ty) c.in-Struct.is)

pub parts_kind-loop-part-preserved : goal.parts_kind-loop-part-preserved
parts_kind-loop-part-preserved t c = elim c.if-not-is_number.branch [
  | parts_kind-then-not-is_number w ↦
      one_more (λ (p : Ty × Init). init_kind c.args.beside.now p.0 p.1) c.loop-part.kind _ _ _ c.args.parts.now c.loop-part.part-index c.part-item.result c.loop-part-test.true c.part-item.is
      w.init_kind.ensures (w.kind-is ∙ w.least-kind.ensures) c.loop-part.invariant
  | parts_kind-else-not-is_number w ↦
      ap (λ (found : Option ShapeKind). least found (parts_kind c.args.beside.now (drop (c.loop-part.part-index + 1) c.args.parts.now))) w.kind-is
      ∙ number_more c.args.beside.now c.loop-part.kind _ c.args.parts.now c.loop-part.part-index c.part-item.result c.loop-part-test.true c.part-item.is
      (c.is_number.ensures w.if-not-is_number.false) c.loop-part.invariant
]
