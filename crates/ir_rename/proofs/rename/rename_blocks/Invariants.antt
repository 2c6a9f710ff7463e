use Rattle.std.proofs.Common.{◌≡◌, ◌++◌, drop, map}
use Rattle.ir_rename.specs.Lent.{renamed}
use Rattle.ir_rename.specs.Renamed.{rename_block}
use Rattle.ir_rename.proofs.rename.rename_blocks.Given as goal

abbrev pub invariant-loop-block : goal.invariant-loop-block
invariant-loop-block l = l.renamed.items ++ map (rename_block (renamed l.names)) (drop l.block-index l.blocks) ≡ map (rename_block (renamed l.names)) l.blocks
