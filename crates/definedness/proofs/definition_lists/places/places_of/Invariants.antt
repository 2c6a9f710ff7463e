use Rattle.std.proofs.Common.{◌≡◌, ◌++◌, drop}
use Rattle.definedness.specs.Flow.{places_by}
use Rattle.definedness.specs.DefinitionLists.Shown.{named}
use Rattle.definedness.proofs.definition_lists.places.places_of.Given as goal

abbrev pub invariant-loop-name : goal.invariant-loop-name
invariant-loop-name l = l.places.items ++ places_by l.index (named (drop l.name-index l.names)) ≡ places_by l.index (named l.names)
