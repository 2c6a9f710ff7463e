use Rattle.std.proofs.Common.{◌≡◌, ◌++◌, drop, map}
use Rattle.ir_machine.specs.Machine.{given_byte}
use Rattle.ir_machine.specs.Walks.{cell_given}
use Rattle.ir_machine.specs.State.{no_world}
use Rattle.ir_machine.proofs.starting.put_blocks.Given as goal

abbrev pub invariant-loop-block : goal.invariant-loop-block
invariant-loop-block l =
    let cell = cell_given (given_byte (record no_world { names = l.names })) in l.blocks ++ map cell (drop l.block-index l.given) ≡ l.initial.blocks ++ map cell l.given
