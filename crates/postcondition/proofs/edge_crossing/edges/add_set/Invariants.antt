use Rattle.std.proofs.Common.{◌≡◌, ◌++◌, drop, filter, not, List}
use Rattle.ir_core.specs.declared.expressions.Reg.{Reg}
use Rattle.erhl_assert.specs.Edges.{is_alike, phi_registers}
use Rattle.postcondition.proofs.edge_crossing.edges.add_set.Given as goal

abbrev pub invariant-loop-phi : goal.invariant-loop-phi
invariant-loop-phi g l =
    let apart : List Reg → List Reg = λ rs. filter (λ r. not (is_alike l.known (record { from = l.from; source = l.source; target = l.target }) r)) rs in
    l.diff ++ apart (phi_registers (drop l.phi-index l.phis)) ≡ l.initial.diff ++ apart (phi_registers l.phis)
