use Rattle.std.proofs.Common.{◌∙◌, ap₂, List}
use Rattle.ir_core.specs.declared.expressions.Reg.{Reg}
use Rattle.ir_core.specs.Expressions.{map_atom}
use Rattle.erhl_assert.specs.declared.facts.Fact.{Fact}
use Rattle.erhl_assert.specs.Matched.{now_operand, some_into, meet}
use Rattle.postcondition.proofs.allowed_lines.matching.reaches.Goals as goal

pub returns : goal.returns
returns g c =
    let among = λ (diff : List Reg) (facts : List Fact). some_into (λ d. meet diff c.args.kind (record { ty = c.args.s.now; atom = map_atom g.R.InLogic.in_logic c.args.c.now }) d)
    (now_operand (record { ty = c.args.t.now; atom = c.args.b.now })) facts in
    c.reaches_among.ensures ∙ ap₂ among c.diff.ensures c.joined.ensures
