use Rattle.std.proofs.Common.{rules}
use Rattle.whole_shapes.proofs.Sighted.{calm_sets}
use Rattle.whole_shapes.proofs.sight.calm_sets.Goals as goal

pub returns-then-same_name : goal.returns-then-same_name
returns-then-same_name c said = calm_sets c.args.calm.now c.args.name.now c.args.ty.now (search rules) (search rules)
