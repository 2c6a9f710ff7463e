use Rattle.std.proofs.Common.{rules}
use Rattle.rule_base.proofs.shipped.drops_flags.Goals as goal

pub returns-then-same_reg_atom-2 : goal.returns-then-same_reg_atom-2
returns-then-same_reg_atom-2 c = search rules
