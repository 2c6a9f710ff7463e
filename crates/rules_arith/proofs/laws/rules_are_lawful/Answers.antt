use Rattle.rules_arith.specs.RuleLaws.{all_lawful}
use Rattle.rules_arith.proofs.laws.rules_are_lawful.Goals as goal

pub returns : goal.returns
returns c = all_lawful
