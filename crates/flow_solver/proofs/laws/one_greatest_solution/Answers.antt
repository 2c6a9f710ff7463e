use Rattle.flow_solver.proofs.Solved.{one_greatest}
use Rattle.flow_solver.proofs.laws.one_greatest_solution.Goals as goal

pub returns : goal.returns
returns g c = one_greatest (g.F.Facts.framework c.args.facts.now) (g.met.F.Facts.monotone c.args.facts.now)
