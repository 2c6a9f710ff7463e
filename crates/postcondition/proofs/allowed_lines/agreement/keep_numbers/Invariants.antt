use Rattle.std.proofs.Common.{◌≡◌, drop}
use Rattle.erhl_assert.specs.Allowed.{keep_numbers}
use Rattle.postcondition.proofs.allowed_lines.agreement.keep_numbers.Given as goal

abbrev pub invariant-loop-a : goal.invariant-loop-a
invariant-loop-a l = keep_numbers (drop l.a-index l.source) l.rest ≡ keep_numbers l.source l.target
