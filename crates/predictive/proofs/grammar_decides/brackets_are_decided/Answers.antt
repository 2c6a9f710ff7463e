-- Each is computed.
use Rattle.std.proofs.Common.{refl}
use Rattle.predictive.proofs.grammar_decides.brackets_are_decided.Goals as goal

pub returns-clause-word : goal.returns-clause-word
returns-clause-word c = λ is may. refl

pub returns-clause-last : goal.returns-clause-last
returns-clause-last c = λ is may. refl

pub returns-clause-missing : goal.returns-clause-missing
returns-clause-missing c = λ is may. refl
