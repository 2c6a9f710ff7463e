use Rattle.std.proofs.Common.{◌≡◌, drop}
use Rattle.postcondition.proofs.LineFacts.{shared}
use Rattle.postcondition.proofs.lines.share_operands.Given as goal

abbrev pub invariant-loop-operand : goal.invariant-loop-operand
invariant-loop-operand g l = shared l.side (drop l.operand-index l.operands) l.sides ≡ shared l.side l.operands l.initial.sides
