use Rattle.module_spelling.proofs.NamesStand.{declared_names_stand}
use Rattle.module_spelling.proofs.token_laws.declared_names_stand.Goals as goal

pub returns : goal.returns
returns c = declared_names_stand
