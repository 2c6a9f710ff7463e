use Rattle.std.proofs.Common.{◌≡◌, drop}
use Rattle.ir_machine.specs.Machine.{arguments_of, passed}
use Rattle.ir_machine.specs.Places.{registers_in}
use Rattle.ir_machine.specs.Registers.{no_registers}
use Rattle.ir_machine.specs.State.{scope_of}
use Rattle.ir_machine.proofs.calling.passed.Given as goal

abbrev pub invariant-loop-i : goal.invariant-loop-i
invariant-loop-i l =
    passed (drop l.i l.params) (arguments_of (scope_of l.«module») (registers_in l.registers) (drop l.i l.arguments)) (registers_in l.file)
    ≡ passed l.params (arguments_of (scope_of l.«module») (registers_in l.registers) l.arguments) no_registers
