use Rattle.std.proofs.Common.{◌≡◌, ◌++◌, drop, map}
use Rattle.ir_core.specs.declared.values.Value.TheVariants.{Num}
use Rattle.ir_machine.proofs.scalars.put_numbers.Given as goal

abbrev pub invariant-loop-byte : goal.invariant-loop-byte
invariant-loop-byte l = l.values.items ++ map Num (drop l.byte-index l.bytes) ≡ l.initial.values.items ++ map Num l.bytes
