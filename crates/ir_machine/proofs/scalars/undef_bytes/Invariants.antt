use Rattle.std.proofs.Common.{◌≡◌, ℕ, map}
use Rattle.std.specs.List.{range_with_len}
use Rattle.ir_core.specs.declared.values.Byte.TheVariants.{Undef}
use Rattle.ir_machine.proofs.scalars.undef_bytes.Given as goal

abbrev pub invariant-loop : goal.invariant-loop
invariant-loop l = l.bytes.items ≡ map (λ (place : ℕ). Undef) (range_with_len 0 l.counter)
