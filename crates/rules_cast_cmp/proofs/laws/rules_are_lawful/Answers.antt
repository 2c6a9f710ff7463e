use Rattle.rules_cast_cmp.specs.RuleLaws.{all_lawful}
use Rattle.rules_cast_cmp.proofs.laws.rules_are_lawful.Goals as goal

pub returns : goal.returns
returns c = all_lawful
