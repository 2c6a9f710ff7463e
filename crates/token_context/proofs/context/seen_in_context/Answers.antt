use Rattle.std.proofs.Common.{subst, sym}
use Rattle.token_context.proofs.SideBySide.{by_themselves, none_matter}
use Rattle.token_context.specs.Readings.{IsContext}
use Rattle.token_context.specs.SideBySide.{DoParensMatter}
use Rattle.token_context.proofs.context.seen_in_context.Goals as goal

pub returns : goal.returns
returns c own e =
    subst (λ deep. IsContext own c.args.kinds.items deep) (sym c.new.ensures.items)
    (by_themselves own c.args.kinds.items
    (none_matter c.args.kinds.items c.do_parens_matter.result c.if-do_parens_matter.false
    (λ h. c.do_parens_matter.ensures.1 (subst DoParensMatter (sym c.deref.ensures.value) h))) e)
