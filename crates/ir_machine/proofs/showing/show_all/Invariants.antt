use Rattle.std.proofs.Common.{◌≡◌, ◌++◌, drop}
use Rattle.block_memory.specs.Names.{Names}
use Rattle.ir_machine.specs.Machine.{arguments_of}
use Rattle.ir_machine.specs.Places.{registers_in, world_in}
use Rattle.ir_machine.specs.State.{scope_of}
use Rattle.ir_machine.proofs.Showings.{AllLead}
use Rattle.ir_machine.proofs.showing.show_all.Given as goal

abbrev pub invariant-loop-argument : goal.invariant-loop-argument
invariant-loop-argument g l = record {
  shown : AllLead (arguments_of (scope_of l.module) (registers_in l.registers) l.arguments) (world_in l.fn.world) (g.C.Chooser.script l.fn.chooser)
      (arguments_of (scope_of l.module) (registers_in l.registers) (drop l.argument-index l.arguments)) l.shown (world_in l.world) (g.C.Chooser.script l.chooser);
  blocks : l.world.blocks ≡ l.fn.world.blocks;
  names : (more : Names) × (l.world.names ≡ l.fn.world.names ++ more);
}
