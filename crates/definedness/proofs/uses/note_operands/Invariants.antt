use Rattle.std.proofs.Common.{◌≡◌, ◌++◌, drop, map}
use Rattle.definedness.specs.Along.{left_by, use_of}
use Rattle.definedness.proofs.uses.note_operands.Given as goal

abbrev pub invariant-loop-operand : goal.invariant-loop-operand
invariant-loop-operand l =
    map use_of l.uses.items ++ left_by l.known.params l.known.own l.block l.line (drop l.operand-index l.operands)
    ≡ map use_of l.initial.uses.items ++ left_by l.known.params l.known.own l.block l.line l.operands
