use Rattle.std.proofs.Common.{◌∙◌, Bool, ap, sym, rules}
use Rattle.std.specs.Option.{option_copied}
use Rattle.ir_core.specs.Expressions.{map_atom}
use Rattle.erhl_assert.specs.declared.facts.Fact.{Fact}
use Rattle.erhl_assert.specs.Matched.{now_operand, into_fact, meet}
use Rattle.fact_sets.proofs.ErhlSides.Walked.{not_yet, nowhere}
use Rattle.postcondition.proofs.allowed_lines.matching.walked_into.Goals as goal
use Rattle.postcondition.proofs.allowed_lines.matching.walked_into.Goals.{in-Some+else-leads_into, in_default}

pub loop-k-preserved : goal.loop-k-preserved
loop-k-preserved g c =
    let fs = g.S.FactSet.contents c.args.facts.now in
    let leads : Fact → Bool = into_fact (λ d. meet c.args.diff.now c.args.kind (record { ty = c.args.s.now; atom = map_atom g.R.InLogic.in_logic c.args.c.now }) d) (now_operand (record { ty = c.args.t.now; atom = c.args.b.now })) in
    elim c.match-at.branch [
      | in-Some+else-leads_into w ↦ not_yet leads c.loop-k.k fs c.loop-k.invariant w.in-Some.fact.now (sym c.at.ensures ∙ ap option_copied w.in-Some.is) (sym w.if-leads_into.false ∙ w.leads_into.ensures)
      | in_default w ↦ nowhere leads c.loop-k.k fs c.loop-k.invariant (search rules)
    ]
