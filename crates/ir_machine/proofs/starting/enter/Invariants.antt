use Rattle.std.proofs.Common.{◌≡◌, drop, None}
use Rattle.ir_machine.specs.Registers.{no_registers}
use Rattle.ir_machine.specs.Machine.{passed}
use Rattle.ir_machine.specs.Starting.{arguments_misfit, handed}
use Rattle.ir_machine.specs.Places.{registers_in, world_in}
use Rattle.ir_machine.proofs.starting.enter.Given as goal

abbrev pub invariant-loop-at : goal.invariant-loop-at
invariant-loop-at l =
    (arguments_misfit l.world.names l.at (drop l.at l.params) (drop l.at l.args) ≡ None)
    × (passed (drop l.at l.params) (handed (world_in l.world) (drop l.at l.params) (drop l.at l.args)) (registers_in l.file)
    ≡ passed l.params (handed (world_in l.world) l.params l.args) no_registers)
