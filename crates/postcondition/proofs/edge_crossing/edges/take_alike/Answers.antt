use Rattle.std.proofs.Common.{◌∙◌, ◌+◌, ◌∷◌, [], List, drop, filter, sym, ap, arith}
use Rattle.std.proofs.lemmas.List.{at_drop_more, at_drop_all}
use Rattle.ir_types.specs.declared.names.Name.{Name}
use Rattle.ir_core.specs.declared.functions.Phi.{Phi}
use Rattle.ir_core.specs.declared.expressions.Reg.{Reg}
use Rattle.ir_core.specs.declared.expressions.Reg.TheVariants.{Now}
use Rattle.erhl_assert.specs.Edges.{Edge, phi_registers}
use Rattle.postcondition.specs.EdgeCrossing.Crossing.{stays_apart}
use Rattle.postcondition.proofs.EdgeCrossing.Differing.{taken_on, nothing_taken}
use Rattle.postcondition.proofs.edge_crossing.edges.take_alike.Goals as goal

pub loop-phi-preserved : goal.loop-phi-preserved
loop-phi-preserved g c =
    let known = c.args.known.now in
    let e : Edge = record { from = c.args.from.now; source = c.args.source.now; target = c.args.target.now } in
    let phis = c.args.phis.now in
    let i = c.loop-phi.phi-index in
    let p = c.phi-item.result in
    let taken : List Phi → List Reg = λ ps. filter (stays_apart known e (phi_registers ps)) c.loop-phi.diff in
    taken_on known e p (drop (i + 1) phis) c.loop-phi.diff c.take_one_alike.new.diff (filter (stays_apart known e (phi_registers phis)) c.args.diff.now)
    (c.in_ok-take_one_alike.ensures ∙ ap (λ (x : Name). filter (stays_apart known e (Now x ∷ [])) c.loop-phi.diff) c.name.ensures)
    (ap (λ (q : Phi). taken (q ∷ drop (i + 1) phis)) c.phi-item.is ∙ sym (at_drop_more taken phis i p c.loop-phi-test.true) ∙ c.loop-phi.invariant)

pub returns : goal.returns
returns g c =
    let known = c.args.known.now in
    let e : Edge = record { from = c.args.from.now; source = c.args.source.now; target = c.args.target.now } in
    let phis = c.args.phis.now in
    let taken : List Phi → List Reg = λ ps. filter (stays_apart known e (phi_registers ps)) c.loop-phi.diff in
    nothing_taken known e c.loop-phi.diff (filter (stays_apart known e (phi_registers phis)) c.args.diff.now)
    (sym (at_drop_all taken phis c.loop-phi.phi-index (omega arith)) ∙ c.loop-phi.invariant)
