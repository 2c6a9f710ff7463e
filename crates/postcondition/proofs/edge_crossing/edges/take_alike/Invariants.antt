use Rattle.std.proofs.Common.{◌≡◌, drop, filter}
use Rattle.erhl_assert.specs.Edges.{Edge, phi_registers}
use Rattle.postcondition.specs.EdgeCrossing.Crossing.{stays_apart}
use Rattle.postcondition.proofs.edge_crossing.edges.take_alike.Given as goal

abbrev pub invariant-loop-phi : goal.invariant-loop-phi
invariant-loop-phi g l =
    let e : Edge = record { from = l.from; source = l.source; target = l.target } in
    filter (stays_apart l.known e (phi_registers (drop l.phi-index l.phis))) l.diff ≡ filter (stays_apart l.known e (phi_registers l.phis)) l.initial.diff
