use Rattle.std.proofs.Common.{◌≡◌, drop}
use Rattle.ir_machine.specs.Machine.{block_named}
use Rattle.ir_machine.proofs.jumping.block_at.Given as goal

abbrev pub invariant-loop-i : goal.invariant-loop-i
invariant-loop-i l = block_named l.name (drop l.i l.blocks) ≡ block_named l.name l.blocks
