use Rattle.std.proofs.Common.{◌≡◌, drop}
use Rattle.ir_machine.specs.Machine.{with_phis}
use Rattle.ir_machine.specs.Places.{registers_in}
use Rattle.ir_machine.specs.State.{scope_of}
use Rattle.ir_machine.proofs.jumping.with_phis.Given as goal

abbrev pub invariant-loop-i : goal.invariant-loop-i
invariant-loop-i l =
    with_phis (scope_of l.«module») (registers_in l.old) l.from (drop l.i l.phis) (registers_in l.after)
    ≡ with_phis (scope_of l.«module») (registers_in l.old) l.from l.phis (registers_in l.old)
