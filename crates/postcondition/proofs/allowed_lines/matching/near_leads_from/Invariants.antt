use Rattle.std.proofs.Common.{◌≡◌, ◌&&◌, Bool, drop}
use Rattle.std.specs.List.{list_any}
use Rattle.erhl_assert.specs.declared.facts.Fact.{Fact}
use Rattle.erhl_assert.specs.Facts.{has_fact}
use Rattle.erhl_assert.specs.Matched.{now_operand, from_fact, some_into, meet}
use Rattle.postcondition.proofs.allowed_lines.matching.near_leads_from.Given as goal

abbrev pub invariant-loop-fact : goal.invariant-loop-fact
invariant-loop-fact g l =
    let leads : Fact → Bool = λ f. has_fact f l.known.src && from_fact (λ c. some_into (λ d. meet l.known.diff l.kind c d) (now_operand (record { ty = l.t; atom = l.b })) l.known.tgt) (now_operand (record { ty = l.s; atom = l.a })) f in
    list_any leads (drop l.fact-index l.near) ≡ list_any leads l.near
