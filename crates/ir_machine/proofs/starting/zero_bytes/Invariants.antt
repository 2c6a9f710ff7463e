use Rattle.std.proofs.Common.{◌≡◌, replicate}
use Rattle.ir_core.specs.declared.values.Byte.TheVariants.{Num}
use Rattle.ir_machine.proofs.starting.zero_bytes.Given as goal

abbrev pub invariant-loop : goal.invariant-loop
invariant-loop l = l.zeros.items ≡ replicate l.counter (Num 0)
