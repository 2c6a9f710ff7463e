use Rattle.std.proofs.Common.{◌≡◌, ◌++◌, map, drop}
use Rattle.std.specs.List.{flat_map}
use Rattle.erhl_assert.specs.declared.hints.HintEdge.{HintEdge}
use Rattle.erhl_checker.proofs.block_checker.edges.steps_on.Given as goal

-- the steps so far and those of the entries that are left are all
abbrev pub invariant-loop-edge : goal.invariant-loop-edge
invariant-loop-edge l =
    map (λ s. s.now) l.steps ++ flat_map (λ (e : HintEdge). e.steps) (map (λ e. e.now) (drop l.edge-index l.entries)) ≡ flat_map (λ (e : HintEdge). e.steps) (map (λ e. e.now) l.entries)
