use Rattle.std.proofs.Common.{◌≡◌, drop}
use Rattle.std.specs.List.{list_any}
use Rattle.erhl_assert.specs.Matched.{now_operand, into_fact, meet}
use Rattle.ir_core.specs.Expressions.{map_atom}
use Rattle.postcondition.proofs.allowed_lines.matching.walked_into.Given as goal

abbrev pub invariant-loop-k : goal.invariant-loop-k
invariant-loop-k g l =
    let leads = into_fact (λ d. meet l.diff l.kind (record { ty = l.s; atom = map_atom g.R.InLogic.in_logic l.c }) d) (now_operand (record { ty = l.t; atom = l.b })) in
    list_any leads (drop l.k (g.S.FactSet.contents l.facts)) ≡ list_any leads (g.S.FactSet.contents l.facts)
