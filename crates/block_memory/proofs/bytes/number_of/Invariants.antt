use Rattle.std.proofs.Common.{◌≡◌, ◌<◌, ◌≤◌, ◌^◌, ◌*◌, ◌-◌, drop, length, Some}
use Rattle.block_memory.specs.Bytes as meaning
use Rattle.block_memory.proofs.bytes.number_of.Given as goal

abbrev pub invariant-loop-place : goal.invariant-loop-place
invariant-loop-place l = record {
  inside : l.place ≤ length l.bytes;
  number : meaning.number_of (drop l.place l.bytes) ≡ Some l.number;
  below : l.number < 2 ^ (8 * (length l.bytes - l.place));
}

abbrev pub decreases-loop-place : goal.decreases-loop-place
decreases-loop-place l = l.place
