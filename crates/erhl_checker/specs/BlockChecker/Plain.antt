-- Words of private functions. Edges without steps, to blocks without phis.
use Rattle.std.specs.Prelude.{◌≡◌, [], Some}
use Rattle.ir_types.specs.declared.names.Name.{Name}
use Rattle.erhl_assert.specs.declared.facts.Assertion.{Assertion}
use Rattle.erhl_assert.specs.Alignment.{block_hint}
use Rattle.erhl_assert.specs.Course.{Gives, within}
use Rattle.erhl_assert.specs.Edges.{phis_at}
use Rattle.erhl_assert.specs.Growth.{over_edge}
use Rattle.erhl_assert.specs.Steps.{Beside, steps_on}

-- neither side has a phi in the block that is entered, and the hint no step on the edge
abbrev pub IsPlainEdge : Beside → Name → Name → Type 0
IsPlainEdge w from to = (phis_at to w.source ≡ []) × (phis_at to w.target ≡ []) × (steps_on to (block_hint w.hint from).edges ≡ [])

-- what is known over each such edge that leaves the block
abbrev pub IsOverPlain : Name → Assertion → Assertion → Type 0
IsOverPlain from known crossed = within (over_edge (record { from = from; source = []; target = [] }) known) ≡ Some (Gives crossed)
