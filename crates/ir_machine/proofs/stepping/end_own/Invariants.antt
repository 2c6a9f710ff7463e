use Rattle.std.proofs.Common.{◌≡◌, drop}
use Rattle.ir_machine.specs.Machine.{all_ended}
use Rattle.ir_machine.proofs.stepping.end_own.Given as goal

abbrev pub invariant-loop-i : goal.invariant-loop-i
invariant-loop-i l = all_ended (drop l.i l.own) l.blocks ≡ all_ended l.own l.initial.blocks
