use Rattle.std.proofs.Common.{◌≡◌, ◌++◌, drop}
use Rattle.erhl_checker.proofs.function_lookup.function_index.indexed.Given as goal

abbrev pub invariant-loop-block : goal.invariant-loop-block
invariant-loop-block l = l.found.items ++ drop l.block-index l.blocks ≡ l.blocks
