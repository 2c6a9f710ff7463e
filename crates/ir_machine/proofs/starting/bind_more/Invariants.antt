use Rattle.std.proofs.Common.{◌≡◌, ◌++◌, length, map, Some}
use Rattle.std.specs.List.{range_with_len}
use Rattle.ir_machine.proofs.starting.bind_more.Given as goal

abbrev pub invariant-loop : goal.invariant-loop
invariant-loop l = l.names ≡ l.initial.names ++ map Some (range_with_len (length l.initial.names) l.counter)
