use Rattle.std.proofs.Common.{◌≡◌, ◌++◌, drop}
use Rattle.std.specs.List.{flat_map}
use Rattle.ir_core.specs.Functions.{names_in, params_of, registers_of}
use Rattle.definedness.specs.DefinitionLists.Shown.{named}
use Rattle.definedness.proofs.definition_lists.names.registers_of.Given as goal

-- the names so far, and those of the blocks that are left
abbrev pub invariant-loop-block : goal.invariant-loop-block
invariant-loop-block l =
    named l.names.items ++ names_in (flat_map registers_of (drop l.block-index l.function.blocks))
    ≡ names_in (params_of l.function) ++ names_in (flat_map registers_of l.function.blocks)
