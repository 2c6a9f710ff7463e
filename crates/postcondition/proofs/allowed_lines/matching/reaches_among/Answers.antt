use Rattle.std.proofs.Common.{◌≡◌, ◌∙◌, ◌||◌, Bool, false, sym, ap₂, rules}
use Rattle.std.specs.List.{list_any}
use Rattle.ir_core.specs.declared.operands.Operand.{Operand}
use Rattle.ir_core.specs.declared.expressions.Reg.{Reg}
use Rattle.ir_core.specs.Expressions.{map_atom}
use Rattle.erhl_assert.specs.Matched.{now_operand, into_fact, meet}
use Rattle.postcondition.proofs.AllowedLines.Leading.{none_leads_into}
use Rattle.postcondition.proofs.allowed_lines.matching.reaches_among.Goals as goal

pub returns-else-may_join : goal.returns-else-may_join
returns-else-may_join g c =
    let p : Operand Reg → Bool = λ d. meet c.args.diff.now c.args.kind (record { ty = c.args.s.now; atom = map_atom g.R.InLogic.in_logic c.args.c.now }) d in
    let b : Operand Reg = now_operand (record { ty = c.args.t.now; atom = c.args.b.now }) in
    let none : list_any (into_fact p b) c.args.facts.now ≡ false = none_leads_into p b c.args.facts.now (c.may_join.ensures (search rules)) in
    let apart : p b ≡ false = sym c.meets_now.ensures ∙ (search rules) in
    (search rules) ∙ sym (ap₂ ◌||◌ apart none)
