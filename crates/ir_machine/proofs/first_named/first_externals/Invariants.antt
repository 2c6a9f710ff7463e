use Rattle.std.proofs.Common.{drop}
use Rattle.ir_machine.specs.Walks.{AreFirstFrom, external_name}
use Rattle.ir_machine.proofs.first_named.first_externals.Given as goal

abbrev pub invariant-loop-place : goal.invariant-loop-place
invariant-loop-place l = AreFirstFrom external_name l.place (drop l.place l.externals) l.firsts.entries
