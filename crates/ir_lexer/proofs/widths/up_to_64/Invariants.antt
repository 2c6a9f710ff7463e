-- the digits that are left complete the number
use Rattle.std.proofs.Common.{◌≡◌, ◌≤◌, drop}
use Rattle.std.specs.List.{fold}
use Rattle.ir_lexer.specs.Numbers.{with_digit, value_of}
use Rattle.ir_lexer.proofs.widths.up_to_64.Given as goal

abbrev pub invariant-loop-digit : goal.invariant-loop-digit
invariant-loop-digit l = (fold with_digit l.value (drop l.digit-index l.digits) ≡ value_of l.digits) × (l.value ≤ 64)
