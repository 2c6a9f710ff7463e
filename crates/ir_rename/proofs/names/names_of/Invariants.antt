use Rattle.std.proofs.Common.{◌≡◌, ◌++◌, drop}
use Rattle.std.specs.List.{flat_map}
use Rattle.ir_core.specs.Functions.{block_names, names_of}
use Rattle.ir_rename.specs.Lent.{lent}
use Rattle.ir_rename.proofs.names.names_of.Given as goal

-- the names so far, and those of the blocks that are left
abbrev pub invariant-loop-block : goal.invariant-loop-block
invariant-loop-block l = lent l.names.items ++ flat_map block_names (drop l.block-index l.function.blocks) ≡ names_of l.function
