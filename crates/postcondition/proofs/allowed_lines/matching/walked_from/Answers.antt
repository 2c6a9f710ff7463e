use Rattle.std.proofs.Common.{◌≡◌, ◌∙◌, Bool, ap, drop, sym, rules}
use Rattle.std.specs.List.{list_any}
use Rattle.std.specs.Option.{option_copied}
use Rattle.erhl_assert.specs.declared.facts.Fact.{Fact}
use Rattle.erhl_assert.specs.Matched.{now_operand, from_fact, some_into, meet}
use Rattle.fact_sets.proofs.ErhlSides.Walked.{not_yet, nowhere}
use Rattle.postcondition.proofs.allowed_lines.matching.walked_from.Goals as goal
use Rattle.postcondition.proofs.allowed_lines.matching.walked_from.Goals.{in-Some+else-leads_from, in_default}

pub loop-k-preserved : goal.loop-k-preserved
loop-k-preserved g c =
    let fs = g.S.FactSet.contents c.facts-facts.result.now in
    let leads : Fact → Bool = from_fact (λ c2. some_into (λ d. meet c.args.known.now.diff c.args.kind c2 d) (now_operand (record { ty = c.args.t.now; atom = c.args.b.now })) c.args.known.now.tgt) (now_operand (record { ty = c.args.s.now; atom = c.args.a.now })) in
    let all : fs ≡ c.args.known.now.src = c.facts-facts.ensures in
    let so_far : list_any leads (drop c.loop-k.k fs) ≡ list_any leads fs = c.loop-k.invariant ∙ sym (ap (list_any leads) all) in
    elim c.match-at.branch [
      | in-Some+else-leads_from w ↦ not_yet leads c.loop-k.k fs so_far w.in-Some.fact.now (sym c.at.ensures ∙ ap option_copied w.in-Some.is) (sym w.if-leads_from.false ∙ w.leads_from.ensures) ∙ ap (list_any leads) all
      | in_default w ↦ nowhere leads c.loop-k.k fs so_far (search rules) ∙ ap (list_any leads) all
    ]
