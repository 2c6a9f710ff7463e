use Rattle.std.proofs.Common.{◌∙◌, ◌+◌, ℕ, List, [], ap₂, filter, length, rules}
use Rattle.ir_types.specs.declared.names.Name.{Name}
use Rattle.ir_core.specs.declared.functions.Phi.{Phi}
use Rattle.erhl_assert.specs.declared.facts.Fact.{Fact}
use Rattle.erhl_assert.specs.declared.facts.Assertion.{Assertion}
use Rattle.erhl_assert.specs.Edges.{Edge}
use Rattle.postcondition.specs.EdgeCrossing.Crossing.{goes, stays}
use Rattle.postcondition.proofs.EdgeCrossing.Crossing.{crossed, not_crossed}
use Rattle.postcondition.proofs.edge_crossing.edges.over.Goals as goal

-- how many go, and what stays, where both sides' phis are seen from the block
abbrev gone : Name × List Phi → List Fact → ℕ
gone seen fs = length (filter (goes seen.0 seen.1) fs)

abbrev left : Assertion → Name × List Phi → Name × List Phi → Assertion
left known source target = record { src = filter (stays source.0 source.1) known.src; tgt = filter (stays target.0 target.1) known.tgt; diff = [] }

pub returns-clause-ok : goal.returns-clause-ok
returns-clause-ok g c =
    let known = c.args.known.now in
    let e : Edge = record { from = c.args.edge.now.from.now; source = c.args.edge.now.source.now; target = c.args.edge.now.target.now } in
    crossed e known (c.count_gone-gone_source.result + c.count_gone-gone_target.result) c.in_ok-after.after
    (ap₂ (λ (m n : ℕ). m + n)
    (c.count_gone-gone_source.ensures ∙ ap₂ gone c.in_ok-source.ensures c.facts.ensures)
    (c.count_gone-gone_target.ensures ∙ ap₂ gone c.in_ok-target.ensures c.facts-2.ensures))
    (c.in_ok-after.ensures ∙ ap₂ (left known) c.in_ok-source.ensures c.in_ok-target.ensures)
    c.add_over.new.after c.set_differing.new.self c.in_ok-diff.diff
    c.in_ok-add_over.ensures
    c.in_ok-diff.ensures
    c.set_differing.ensures

pub returns-in_err-add_over-clause-limit : goal.returns-in_err-add_over-clause-limit
returns-in_err-add_over-clause-limit g c =
    let known = c.args.known.now in
    let e : Edge = record { from = c.args.edge.now.from.now; source = c.args.edge.now.source.now; target = c.args.edge.now.target.now } in
    let none = not_crossed e known (c.count_gone-gone_source.result + c.count_gone-gone_target.result) c.in_ok-after.after
    (ap₂ (λ (m n : ℕ). m + n)
    (c.count_gone-gone_source.ensures ∙ ap₂ gone c.in_ok-source.ensures c.facts.ensures)
    (c.count_gone-gone_target.ensures ∙ ap₂ gone c.in_ok-target.ensures c.facts-2.ensures))
    (c.in_ok-after.ensures ∙ ap₂ (left known) c.in_ok-source.ensures c.in_ok-target.ensures) in
    search (rules, none)
