use Rattle.std.proofs.Common.{rules}
use Rattle.fact_sets.proofs.erhl_sides.sides.Sides.add_fact.Goals as goal

pub returns-in-Tgt : goal.returns-in-Tgt
returns-in-Tgt g c = search rules
