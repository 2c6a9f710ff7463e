use Rattle.std.proofs.Common.{◌≡◌, drop}
use Rattle.erhl_assert.specs.Course.{within}
use Rattle.erhl_assert.specs.Growth.{adds_all}
use Rattle.fact_sets.proofs.erhl_sides.sides.put.Given as goal

abbrev pub invariant-loop-fact : goal.invariant-loop-fact
invariant-loop-fact g l = within (adds_all l.side (drop l.fact-index l.facts) l.sides) ≡ within (adds_all l.side l.facts l.initial.sides)
