use Rattle.std.proofs.Common.{◌∙◌, refl, sym}
use Rattle.fact_sets.proofs.Crossed.{kept_alone_over, is_none}
use Rattle.fact_sets.proofs.register_set.RegisterSet.old_too.Goals as goal

pub returns-then-not-may_have_old : goal.returns-then-not-may_have_old
returns-then-not-may_have_old c =
    kept_alone_over c.in_ok-set.set c.in_ok-kept.kept c.in_ok-before.before c.as_slice-then-not-may_have_old.result.now
    c.self.inside.kept c.self.inside.added c.self.inside.before c.self.inside.behind c.args.self.now
    c.in_ok-set.ensures c.in_ok-kept.ensures c.in_ok-before.ensures c.as_slice-then-not-may_have_old.ensures c.self.view_is
    (sym c.as_slice.ensures ∙ is_none c.as_slice.result.now (sym c.is_empty.ensures ∙ c.if-is_empty.true))
    (c.if-is_none.ensures refl)
    (c.if-not-may_have_old.ensures refl)
