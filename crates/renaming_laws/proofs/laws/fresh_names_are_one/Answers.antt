use Rattle.renaming_laws.proofs.OneFresh.{fresh_names_are_one}
use Rattle.renaming_laws.proofs.laws.fresh_names_are_one.Goals as goal

pub returns : goal.returns
returns c = fresh_names_are_one
