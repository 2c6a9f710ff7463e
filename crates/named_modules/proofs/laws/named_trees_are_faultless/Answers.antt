use Rattle.named_modules.proofs.OneModule.{named_faultless}
use Rattle.named_modules.proofs.laws.named_trees_are_faultless.Goals as goal

pub returns : goal.returns
returns c = named_faultless
