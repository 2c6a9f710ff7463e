use Rattle.std.proofs.Common.{◌≡◌, drop}
use Rattle.erhl_assert.specs.Growth.{facts_of}
use Rattle.erhl_assert.specs.Steps.{first_missing}
use Rattle.fact_sets.specs.ErhlSides.Looking.{looked_at}
use Rattle.fact_sets.proofs.erhl_sides.sides.Sides.first_absent.Given as goal

abbrev pub invariant-loop-fact : goal.invariant-loop-fact
invariant-loop-fact g l =
    first_missing (looked_at l.passes_old (facts_of l.side l.self)) (drop l.fact-index l.wanted) ≡ first_missing (looked_at l.passes_old (facts_of l.side l.self)) l.wanted
