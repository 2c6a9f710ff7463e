use Rattle.renaming_laws.proofs.Uses.{functions_are_judged}
use Rattle.renaming_laws.proofs.judging.functions_are_judged.Goals as goal

pub returns : goal.returns
returns c f known = functions_are_judged f known
