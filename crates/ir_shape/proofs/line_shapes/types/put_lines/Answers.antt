use Rattle.std.proofs.Common.{refl}
use Rattle.std.specs.List.{flat_map}
use Rattle.ir_typing.specs.ShapeKinds.Kept.{type_in}
use Rattle.ir_shape.specs.LineShapes.Assumed.{told_by}
use Rattle.ir_shape.proofs.LineShapes.Untold.{more_untold}
use Rattle.ir_shape.proofs.line_shapes.types.put_lines.Goals as goal

pub loop-line-preserved : goal.loop-line-preserved
loop-line-preserved c =
    more_untold (told_by c.args.assumed c.args.beside.now.types) (flat_map (told_by c.args.assumed c.args.beside.now.types)) (λ x xs. refl) (type_in c.loop-line.types) (type_in c.put_line.new.types) c.args.lines.now
    c.loop-line.line-index c.line-item.result c.loop-line.new c.in_ok-first.first c.both-new.result _ _ c.loop-line-test.true c.line-item.is c.in_ok-first.ensures.new c.in_ok-first.ensures.types c.both-new.ensures c.loop-line.invariant
