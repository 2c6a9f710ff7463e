use Rattle.std.proofs.Common.{◌≡◌, ◌&&◌, Bool, drop}
use Rattle.std.specs.List.{list_any}
use Rattle.erhl_assert.specs.declared.facts.Fact.{Fact}
use Rattle.erhl_assert.specs.Facts.{has_fact}
use Rattle.erhl_assert.specs.Matched.{now_operand, into_fact, meet}
use Rattle.ir_core.specs.Expressions.{map_atom}
use Rattle.postcondition.proofs.allowed_lines.matching.near_leads_into.Given as goal

abbrev pub invariant-loop-fact : goal.invariant-loop-fact
invariant-loop-fact g l =
    let leads : Fact → Bool = λ f. has_fact f (g.S.FactSet.contents l.facts) && into_fact (λ d. meet l.diff l.kind (record { ty = l.s; atom = map_atom g.R.InLogic.in_logic l.c }) d) (now_operand (record { ty = l.t; atom = l.b })) f in
    list_any leads (drop l.fact-index l.near) ≡ list_any leads l.near
