use Rattle.std.proofs.Common.{List, refl}
use Rattle.ir_core.specs.declared.functions.Entry.{Entry}
use Rattle.ir_typing.specs.ShapeKinds.Kept.{type_in}
use Rattle.ir_shape.specs.ShapeTests.Typed.{operands_at}
use Rattle.ir_shape.specs.LineShapes.Told.{atom_kind, operands_kind}
use Rattle.ir_shape.proofs.LineShapes.LeastKinds.{one_more}
use Rattle.ir_shape.proofs.line_shapes.operands.entries_kind.Goals as goal

pub loop-entry-preserved : goal.loop-entry-preserved
loop-entry-preserved c =
    let m = c.args.beside.now in
    let types = type_in c.args.types.now in
    let t = c.args.ty.now in
    one_more (λ (es : List Entry). operands_kind m types (operands_at t es)) (λ (e : Entry). atom_kind m types t e.value) (λ x xs. refl) c.loop-entry.found _ _ _ c.args.entries.now
    c.loop-entry.entry-index c.entry-item.result c.loop-entry-test.true c.entry-item.is c.atom_kind.ensures c.least-found.ensures c.loop-entry.invariant
