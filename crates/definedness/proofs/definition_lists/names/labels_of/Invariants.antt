use Rattle.std.proofs.Common.{◌≡◌, ◌++◌, drop}
use Rattle.definedness.specs.Graph.{labels_in}
use Rattle.definedness.specs.DefinitionLists.Shown.{named}
use Rattle.definedness.proofs.definition_lists.names.labels_of.Given as goal

abbrev pub invariant-loop-block : goal.invariant-loop-block
invariant-loop-block l = named l.names.items ++ labels_in (drop l.block-index l.blocks) ≡ labels_in l.blocks
