use Rattle.std.proofs.Common.{◌≡◌, drop}
use Rattle.erhl_assert.specs.Matched.{are_matched}
use Rattle.postcondition.proofs.allowed_lines.agreement.are_matched.Given as goal

abbrev pub invariant-loop-a : goal.invariant-loop-a
invariant-loop-a g l = are_matched l.known (drop l.a-index l.source) l.rest ≡ are_matched l.known l.source l.target
