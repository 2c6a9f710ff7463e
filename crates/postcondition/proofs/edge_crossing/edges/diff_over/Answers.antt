use Rattle.std.proofs.Common.{◌∙◌, ◌++◌, List, ap, filter}
use Rattle.ir_core.specs.declared.functions.Phi.{Phi}
use Rattle.erhl_assert.specs.Edges.{Edge, old_too, phi_registers}
use Rattle.postcondition.specs.EdgeCrossing.Crossing.{stays_apart}
use Rattle.postcondition.proofs.EdgeCrossing.Differing.{apart, all_added}
use Rattle.postcondition.proofs.edge_crossing.edges.diff_over.Goals as goal

pub returns : goal.returns
returns g c =
    let known = c.args.known.now in
    let e : Edge = record { from = c.args.from.now; source = c.args.source.now; target = c.args.target.now } in
    all_added known e c.in_ok-diff.diff c.take_alike.new.diff c.add_set.new.diff c.add_set-2.new.diff
    (c.in_ok-diff.ensures ∙ ap old_too c.diff.ensures)
    (c.in_ok-take_alike.ensures ∙ ap (λ (ps : List Phi). filter (stays_apart known e (phi_registers ps)) c.in_ok-diff.diff) c.all.ensures)
    (c.in_ok-add_set.ensures ∙ ap (λ (ps : List Phi). c.take_alike.new.diff ++ filter (apart known e) (phi_registers ps)) c.all-2.ensures)
    (c.in_ok-add_set-2.ensures ∙ ap (λ (ps : List Phi). c.add_set.new.diff ++ filter (apart known e) (phi_registers ps)) c.all-3.ensures)
