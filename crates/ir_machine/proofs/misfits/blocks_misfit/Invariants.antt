use Rattle.std.proofs.Common.{◌≡◌, drop}
use Rattle.ir_machine.specs.Starting.{block_misfit, first_of}
use Rattle.ir_machine.proofs.misfits.blocks_misfit.Given as goal

abbrev pub invariant-loop-at : goal.invariant-loop-at
invariant-loop-at l = first_of (block_misfit l.names) l.at (drop l.at l.blocks) ≡ first_of (block_misfit l.names) 0 l.blocks
