use Rattle.std.proofs.Common.{◌≡◌, drop}
use Rattle.std.specs.List.{list_any}
use Rattle.erhl_assert.specs.Matched.{now_operand, from_fact, some_into, meet}
use Rattle.postcondition.proofs.allowed_lines.matching.walked_from.Given as goal

abbrev pub invariant-loop-k : goal.invariant-loop-k
invariant-loop-k g l =
    let leads = from_fact (λ c. some_into (λ d. meet l.known.diff l.kind c d) (now_operand (record { ty = l.t; atom = l.b })) l.known.tgt) (now_operand (record { ty = l.s; atom = l.a })) in
    list_any leads (drop l.k (g.S.FactSet.contents l.facts)) ≡ list_any leads l.known.src
