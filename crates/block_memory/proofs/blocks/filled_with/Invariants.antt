use Rattle.std.proofs.Common.{◌≡◌}
use Rattle.block_memory.specs.Memory.{filled}
use Rattle.block_memory.proofs.blocks.filled_with.Given as goal

-- the bytes before the place
abbrev pub invariant-loop-place : goal.invariant-loop-place
invariant-loop-place l = l.contents.items ≡ filled l.place l.bytes
