use Rattle.std.proofs.Common.{◌≡◌, drop}
use Rattle.postcondition.proofs.LineFacts.{shared_passed}
use Rattle.postcondition.proofs.lines.share_arguments.Given as goal

abbrev pub invariant-loop-argument : goal.invariant-loop-argument
invariant-loop-argument g l = shared_passed l.side (drop l.argument-index l.arguments) l.sides ≡ shared_passed l.side l.arguments l.initial.sides
