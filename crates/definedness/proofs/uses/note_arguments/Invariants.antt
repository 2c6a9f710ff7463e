use Rattle.std.proofs.Common.{◌≡◌, ◌++◌, drop, map}
use Rattle.ir_core.specs.declared.functions.Argument.{Argument}
use Rattle.definedness.specs.Along.{left_by, use_of}
use Rattle.definedness.proofs.uses.note_arguments.Given as goal

abbrev pub invariant-loop-argument : goal.invariant-loop-argument
invariant-loop-argument l =
    map use_of l.uses.items ++ left_by l.known.params l.known.own l.block l.line (map (λ (a : Argument). a.operand) (drop l.argument-index l.arguments))
    ≡ map use_of l.initial.uses.items ++ left_by l.known.params l.known.own l.block l.line (map (λ (a : Argument). a.operand) l.arguments)
