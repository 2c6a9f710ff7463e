use Rattle.std.proofs.Common.{◌≡◌, ◌++◌, drop, map}
use Rattle.definedness.specs.DefinitionLists.Solved.{given_in}
use Rattle.definedness.proofs.definition_lists.graph.given_in.Given as goal

abbrev pub invariant-loop-block : goal.invariant-loop-block
invariant-loop-block l = map (λ row. row.items) l.rows.items ++ given_in l.registers (drop l.block-index l.blocks) ≡ given_in l.registers l.blocks
