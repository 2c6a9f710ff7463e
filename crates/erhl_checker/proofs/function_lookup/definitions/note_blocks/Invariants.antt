use Rattle.std.proofs.Common.{◌≡◌, ◌++◌, drop}
use Rattle.std.specs.List.{flat_map}
use Rattle.ir_core.specs.Functions.{registers_of}
use Rattle.erhl_checker.proofs.function_lookup.definitions.note_blocks.Given as goal

abbrev pub invariant-loop-block : goal.invariant-loop-block
invariant-loop-block l =
    l.found.items ++ flat_map registers_of (drop l.block-index l.blocks)
    ≡ l.initial.found.items ++ flat_map registers_of l.blocks
