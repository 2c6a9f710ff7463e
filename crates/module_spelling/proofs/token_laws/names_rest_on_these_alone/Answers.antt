use Rattle.module_spelling.proofs.RestOnThese.{names_rest_on_these_alone}
use Rattle.module_spelling.proofs.token_laws.names_rest_on_these_alone.Goals as goal

pub returns : goal.returns
returns c = names_rest_on_these_alone
