use Rattle.std.proofs.Common.{rules}
use Rattle.whole_shapes.proofs.Sighted.{line_typed}
use Rattle.whole_shapes.proofs.sight.is_line.Goals as goal

pub returns-in-Some : goal.returns-in-Some
returns-in-Some c said =
    line_typed c.args.body.now c.args.place c.in-Some.line.now (c.args.name.now, c.args.ty.now) (search rules) (search rules) (c.sets.ensures said)
