use Rattle.std.proofs.Common.{◌≡◌, drop, map}
use Rattle.std.specs.List.{zip}
use Rattle.erhl_assert.specs.Alignment.{blocks_aligned}
use Rattle.line_align.specs.Lent.{lent_block}
use Rattle.line_align.proofs.Lending.{before}
use Rattle.line_align.proofs.alignment.align_blocks.Given as goal

-- the blocks that have aligned and what is left make up the whole
abbrev pub invariant-loop-b : goal.invariant-loop-b
invariant-loop-b l = before (map lent_block l.found) (blocks_aligned (record { blocks = l.hints }) (zip (drop l.b-index l.source) l.rest)) ≡ blocks_aligned (record { blocks = l.hints }) (zip l.source l.target)
