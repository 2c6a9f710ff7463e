use Rattle.std.proofs.Common.{◌∙◌, ◌&&◌, Bool, List, ap}
use Rattle.std.specs.List.{list_any}
use Rattle.ir_core.specs.declared.operands.Operand.{Operand}
use Rattle.ir_core.specs.declared.expressions.Reg.{Reg}
use Rattle.ir_core.specs.Expressions.{map_atom}
use Rattle.erhl_assert.specs.declared.facts.Fact.{Fact}
use Rattle.erhl_assert.specs.Facts.{has_fact}
use Rattle.erhl_assert.specs.Matched.{now_operand, into_fact, meet}
use Rattle.postcondition.proofs.AllowedLines.Leading.{into_found}
use Rattle.postcondition.proofs.allowed_lines.matching.some_leads_into.Goals as goal

pub returns-in-Some : goal.returns-in-Some
returns-in-Some g c =
    let p : Operand Reg → Bool = λ d. meet c.args.diff.now c.args.kind (record { ty = c.args.s.now; atom = map_atom g.R.InLogic.in_logic c.args.c.now }) d in
    let b : Operand Reg = now_operand (record { ty = c.args.t.now; atom = c.args.b.now }) in
    let near : List Fact = c.in-Some.near.now in
    let found : List Fact → Bool = λ fs. list_any (λ f. has_fact f fs && into_fact p b f) near in
    c.near_leads_into.ensures ∙ ap found c.facts.ensures ∙ into_found p b near c.args.facts.now c.in-Some.ensures
