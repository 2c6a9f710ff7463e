use Rattle.std.proofs.Common.{◌≡◌, drop, map}
use Rattle.std.specs.List.{range_with_len, zip}
use Rattle.ir_machine.specs.Scalars.{byte_among}
use Rattle.ir_machine.proofs.scalars.laid.Given as goal

abbrev pub invariant-loop-place : goal.invariant-loop-place
invariant-loop-place l = l.bytes.items ≡ map (byte_among (drop l.place (zip l.scalars l.values))) (range_with_len 0 l.size)
