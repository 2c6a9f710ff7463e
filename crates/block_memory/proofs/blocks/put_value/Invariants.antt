use Rattle.std.proofs.Common.{◌≡◌, take}
use Rattle.block_memory.specs.Bytes.{bytes_of}
use Rattle.block_memory.proofs.blocks.put_value.Given as goal

abbrev pub invariant-loop-place : goal.invariant-loop-place
invariant-loop-place l = take l.place l.bytes ≡ bytes_of l.place l.value
