use Rattle.std.proofs.Common.{◌≡◌, ◌++◌, length}
use Rattle.std.specs.List.{filter_map}
use Rattle.derivation_cursor.specs.At.{ahead_of}
use Rattle.module_derivations.specs.Empty.{made}
use Rattle.fault_walk.specs.Items.{listed}
use Rattle.fault_walk.proofs.items.read_list.Given as goal

abbrev pub invariant-loop-c : goal.invariant-loop-c
invariant-loop-c l = l.list ++ filter_map listed (made (ahead_of l.c)).whole.items ≡ filter_map listed (made (ahead_of l.fn.c)).whole.items

abbrev pub decreases-loop-c : goal.decreases-loop-c
decreases-loop-c l = length l.c.numbers.now
