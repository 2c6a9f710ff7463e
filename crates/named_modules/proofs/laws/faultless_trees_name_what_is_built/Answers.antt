use Rattle.named_modules.proofs.ModuleTies.{faultless_named}
use Rattle.named_modules.proofs.laws.faultless_trees_name_what_is_built.Goals as goal

pub returns : goal.returns
returns c = faultless_named
