use Rattle.std.proofs.Common.{◌≡◌, drop}
use Rattle.ir_machine.specs.Machine.{case_of}
use Rattle.ir_machine.proofs.jumping.case_of.Given as goal

abbrev pub invariant-loop-i : goal.invariant-loop-i
invariant-loop-i l =
    case_of l.switch.value.ty l.switch.default (drop l.i l.cases) l.number ≡ case_of l.switch.value.ty l.switch.default l.switch.cases l.number
