use Rattle.std.proofs.Common.{◌≡◌, drop}
use Rattle.block_memory.specs.Bytes as meaning
use Rattle.block_memory.proofs.bytes.are_fragments.Given as goal

abbrev pub invariant-loop-place : goal.invariant-loop-place
invariant-loop-place l = meaning.are_fragments l.block l.offset 0 l.bytes ≡ meaning.are_fragments l.block l.offset l.place (drop l.place l.bytes)
