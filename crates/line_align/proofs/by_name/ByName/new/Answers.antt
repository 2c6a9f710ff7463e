use Rattle.std.proofs.Common.{◌∙◌, ap, filter, arith}
use Rattle.std.proofs.lemmas.List.{take_all}
use Rattle.ir_types.specs.Same.{same_name}
use Rattle.line_align.proofs.by_name.ByName.new.Goals as goal

pub invariant_of-result : goal.invariant_of-result
invariant_of-result g c = (
  c.new.ensures,
  c.loop-item.invariant.many,
  λ x. c.loop-item.invariant.grouped x ∙ ap (filter (λ item. same_name (g.T.Named.named item) x)) (take_all c.loop-item.item-index c.args.items.now (omega arith)),
)
