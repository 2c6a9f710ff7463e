use Rattle.std.proofs.Common.{◌≡◌, ◌++◌, drop, map}
use Rattle.ir_machine.specs.Starting.{global_cell}
use Rattle.ir_machine.specs.State.{scope_of}
use Rattle.ir_machine.proofs.starting.put_globals.Given as goal

abbrev pub invariant-loop-global : goal.invariant-loop-global
invariant-loop-global l =
    let cell = global_cell (scope_of l.«module») l.input in l.blocks ++ map cell (drop l.global-index l.global-items) ≡ l.initial.blocks ++ map cell l.global-items
