use Rattle.fact_sets.proofs.Crossed.{is_as_old, is_old_yet}
use Rattle.fact_sets.proofs.register_set.has_before.Goals as goal

pub returns-then-has_now : goal.returns-then-has_now
returns-then-has_now c = is_as_old _ c.args.before.now c.args.register.now c.has_now.result c.in-Old.is c.has_now.ensures c.if-has_now.true

pub returns-else-has_now : goal.returns-else-has_now
returns-else-has_now c = is_old_yet _ c.args.before.now c.args.register.now c.has_now.result c.has.result c.in-Old.is c.has_now.ensures c.if-has_now.false c.has.ensures
