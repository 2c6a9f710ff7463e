use Rattle.std.proofs.Common.{arith}
use Rattle.std.proofs.lemmas.Grind.{common_steps}
use Rattle.fact_sets.proofs.erhl_sides.sides.are_within.Goals as goal

pub returns-then-source-most : goal.returns-then-source-most
returns-then-source-most c = grind (arith, common_steps)
