use Rattle.std.proofs.Common.{rules}
use Rattle.rule_base.proofs.substitution.one_of_two.Goals as goal

pub returns-then-same_reg_atom : goal.returns-then-same_reg_atom
returns-then-same_reg_atom c = search rules
