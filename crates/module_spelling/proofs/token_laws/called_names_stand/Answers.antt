use Rattle.module_spelling.proofs.NamesStand.{called_names_stand}
use Rattle.module_spelling.proofs.token_laws.called_names_stand.Goals as goal

pub returns : goal.returns
returns c = called_names_stand
