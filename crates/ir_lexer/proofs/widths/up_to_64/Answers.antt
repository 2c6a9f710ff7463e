use Rattle.std.proofs.Common.{arith}
use Rattle.ir_lexer.proofs.MoreDigits.{above, whole}
use Rattle.ir_lexer.proofs.widths.up_to_64.Goals as goal

pub returns-then-value-gt64 : goal.returns-then-value-gt64
returns-then-value-gt64 c = above c.loop-digit.value c.loop-digit.digit-index c.args.digits.now c.loop-digit.invariant.0 (omega arith) (omega arith)

pub returns : goal.returns
returns c =
    (whole c.loop-digit.value c.loop-digit.digit-index c.args.digits.now c.loop-digit.invariant.0 (omega arith), c.loop-digit.invariant.1)
