use Rattle.definedness.proofs.DefinitionLists.Unique.{lists_are_one}
use Rattle.definedness.proofs.definition_lists.laws.lists_are_one.Goals as goal

pub returns : goal.returns
returns c = lists_are_one
