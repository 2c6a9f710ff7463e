use Rattle.std.proofs.Common.{refl}
use Rattle.ir_core.specs.declared.operands.Operand.{Operand}
use Rattle.ir_types.specs.declared.names.Name.{Name}
use Rattle.ir_typing.specs.ShapeKinds.Kept.{type_in}
use Rattle.ir_shape.specs.LineShapes.Told.{atom_kind, operands_kind}
use Rattle.ir_shape.proofs.LineShapes.LeastKinds.{one_more}
use Rattle.ir_shape.proofs.line_shapes.operands.operands_kind.Goals as goal

pub loop-operand-preserved : goal.loop-operand-preserved
loop-operand-preserved c =
    let m = c.args.beside.now in
    let types = type_in c.args.types.now in
    one_more (operands_kind m types) (λ (o : Operand Name). atom_kind m types o.ty o.atom) (λ x xs. refl) c.loop-operand.found _ _ _ c.args.operands.now c.loop-operand.operand-index
    c.operand-item.result c.loop-operand-test.true c.operand-item.is c.atom_kind.ensures c.least-found.ensures c.loop-operand.invariant
