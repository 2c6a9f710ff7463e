-- The product, or the sum, is 2 to the 128 or more, and so is the number.
use Rattle.std.proofs.Common.{◌+◌, ◌-◌, ◌*◌, ◌≤◌, ◌^◌, get_or, ◌∙◌, arith}
use Rattle.ir_lexer.proofs.Values.{too_large, all_read}
use Rattle.ir_lexer.proofs.numbers.value_of.Goals as goal

pub returns-in_err-checked_mul : goal.returns-in_err-checked_mul
returns-in_err-checked_mul c =
    let large : 2 ^ 128 ≤ c.loop-digit.value * 10 + (get_or c.args.digits.now c.loop-digit.digit-index 0 - 48) = omega (arith, c.in_err-checked_mul.ensures) in
    c.from_residual.ensures ∙ too_large (2 ^ 128) c.loop-digit.value c.loop-digit.digit-index c.args.digits.now c.loop-digit.invariant.0 (omega arith) large

pub returns-in_err-value : goal.returns-in_err-value
returns-in_err-value c =
    let large : 2 ^ 128 ≤ c.loop-digit.value * 10 + (get_or c.args.digits.now c.loop-digit.digit-index 0 - 48) = omega (arith, c.in_err-value.ensures, c.in_ok-checked_mul.ensures) in
    c.from_residual-in_err-value.ensures ∙ too_large (2 ^ 128) c.loop-digit.value c.loop-digit.digit-index c.args.digits.now c.loop-digit.invariant.0 (omega arith) large

pub returns : goal.returns
returns c = all_read (2 ^ 128) c.loop-digit.value c.loop-digit.digit-index c.args.digits.now c.loop-digit.invariant.0 (omega arith) c.loop-digit.invariant.1
