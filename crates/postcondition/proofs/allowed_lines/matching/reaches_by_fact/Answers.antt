use Rattle.std.proofs.Common.{◌∙◌, Bool, List, sym, ap, subst, rules}
use Rattle.std.specs.List.{list_any}
use Rattle.ir_core.specs.declared.operands.Operand.{Operand}
use Rattle.ir_core.specs.declared.expressions.Reg.{Reg}
use Rattle.erhl_assert.specs.declared.facts.Fact.{Fact}
use Rattle.fact_sets.specs.Near.{found_under, HasAllNear}
use Rattle.erhl_assert.specs.Matched.{now_operand, from_fact, some_into, meet}
use Rattle.postcondition.proofs.AllowedLines.Leading.{none_leads_from, from_found}
use Rattle.postcondition.proofs.allowed_lines.matching.reaches_by_fact.Goals as goal

pub returns-then-not-may_join : goal.returns-then-not-may_join
returns-then-not-may_join g c =
    let known = c.args.known.now in
    let p : Operand Reg → Bool = λ o. some_into (λ d. meet known.diff c.args.kind o d) (now_operand (record { ty = c.args.t.now; atom = c.args.b.now })) known.tgt in
    let a : Operand Reg = now_operand (record { ty = c.args.s.now; atom = c.args.a.now }) in
    sym (sym (ap (list_any (from_fact p a)) c.joined.ensures) ∙ none_leads_from p a c.joined.result.now (c.may_join.ensures (search rules)))

pub returns-in-Some : goal.returns-in-Some
returns-in-Some g c =
    let known = c.args.known.now in
    let p : Operand Reg → Bool = λ o. some_into (λ d. meet known.diff c.args.kind o d) (now_operand (record { ty = c.args.t.now; atom = c.args.b.now })) known.tgt in
    let a : Operand Reg = now_operand (record { ty = c.args.s.now; atom = c.args.a.now }) in
    let near : List Fact = c.in-Some.near.now in
    c.near_leads_from.ensures ∙ from_found p a near known.src (subst (HasAllNear (found_under a.atom) near) c.joined-2.ensures c.in-Some.ensures)
