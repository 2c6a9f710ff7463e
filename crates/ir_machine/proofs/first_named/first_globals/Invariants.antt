use Rattle.std.proofs.Common.{drop}
use Rattle.ir_machine.specs.Walks.{AreFirstFrom, global_name}
use Rattle.ir_machine.proofs.first_named.first_globals.Given as goal

abbrev pub invariant-loop-place : goal.invariant-loop-place
invariant-loop-place l = AreFirstFrom global_name l.place (drop l.place l.globals) l.firsts.entries
