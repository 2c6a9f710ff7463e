use Rattle.std.proofs.Common.{List, map, refl}
use Rattle.ir_core.specs.declared.functions.Argument.{Argument}
use Rattle.ir_typing.specs.ShapeKinds.Kept.{type_in}
use Rattle.ir_shape.specs.LineShapes.Told.{atom_kind, operands_kind}
use Rattle.ir_shape.proofs.LineShapes.LeastKinds.{one_more}
use Rattle.ir_shape.proofs.line_shapes.operands.arguments_kind.Goals as goal

pub loop-argument-preserved : goal.loop-argument-preserved
loop-argument-preserved c =
    let m = c.args.beside.now in
    let types = type_in c.args.types.now in
    one_more (λ (xs : List Argument). operands_kind m types (map (λ (a : Argument). a.operand) xs)) (λ (a : Argument). atom_kind m types a.operand.ty a.operand.atom) (λ x ys. refl)
    c.loop-argument.found _ _ _ c.args.arguments.now c.loop-argument.argument-index c.argument-item.result c.loop-argument-test.true c.argument-item.is c.atom_kind.ensures
    c.least-found.ensures c.loop-argument.invariant
