use Rattle.module_spelling.proofs.ShortTrees.{within_trees_are_short}
use Rattle.module_spelling.proofs.token_laws.within_trees_are_short.Goals as goal

pub returns : goal.returns
returns c = within_trees_are_short
