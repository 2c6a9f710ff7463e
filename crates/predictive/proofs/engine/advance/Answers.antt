use Rattle.predictive.proofs.Advancing.{kind_taken, none_left, none_stuck, opened_kept, reduced_kept, rule_in, smaller}
use Rattle.predictive.proofs.Moving.{stays}
use Rattle.predictive.proofs.engine.advance.Goals as goal
use Rattle.std.proofs.Common.{ap, sym, ◌∙◌, ◌∷◌}
use Rattle.predictive.specs.Frames.{framed}
use Rattle.predictive.specs.Moves.{opened}
use Rattle.predictive.specs.declared.item.Item.TheVariants.{Done, Kind}

pub loop-item-init : goal.loop-item-init
loop-item-init g c = (c.requires, stays _ _ _ _ _ _ _)

pub returns-in-None : goal.returns-in-None
returns-in-None g c =
    none_stuck _ _ (g.met.G.Table.lawful c.args.table.now) _ _ _ _ _ _ _ _ c.loop-item.invariant _ g.met.A.Action.begun_unmarked g.met.A.Action.reduced_unmarked
    _ (framed c.pop.new.top.rest.now c.pop.new.top.rule c.pop.new.below) (c.in-Some.ensures ∙ ap (λ i. i ∷ (framed c.pop.new.top.rest.now c.pop.new.top.rule c.pop.new.below)) c.in-Non.is) c.in-None.ensures

pub right-requires : goal.right-requires
right-requires g c = rule_in _ _ (g.met.G.Table.lawful c.args.table.now) _ _ _ c.in-Some-choose.ensures

pub loop-item-smaller : goal.loop-item-smaller
loop-item-smaller g c =
    smaller _ _ (g.met.G.Table.lawful c.args.table.now) _ _ _ _ (framed c.pop.new.top.rest.now c.pop.new.top.rule c.pop.new.below) _ (c.in-Some.ensures ∙ ap (λ i. i ∷ (framed c.pop.new.top.rest.now c.pop.new.top.rule c.pop.new.below)) c.in-Non.is) (c.in_ok-open-in-Some-choose.ensures ∙ ap (λ right. opened right (Done c.in-Some-choose.rule ∷ (framed c.pop.new.top.rest.now c.pop.new.top.rule c.pop.new.below))) c.right.ensures) c.in-Some-choose.ensures

pub loop-item-preserved-in-Continue-1 : goal.loop-item-preserved-in-Continue-1
loop-item-preserved-in-Continue-1 g c =
    reduced_kept _ (g.G.Table.sets c.args.table.now) _ _ _ _ _ _ _ _ c.loop-item.invariant _ (framed c.pop.new.top.rest.now c.pop.new.top.rule c.pop.new.below) _
    (c.in-Some.ensures ∙ ap (λ i. i ∷ (framed c.pop.new.top.rest.now c.pop.new.top.rule c.pop.new.below)) c.in-Done.is) c.in_ok-reduce-in-Done.ensures

pub loop-item-preserved : goal.loop-item-preserved
loop-item-preserved g c =
    opened_kept _ _ (g.met.G.Table.lawful c.args.table.now) _ _ _ _ _ _ _ _ c.loop-item.invariant _ _ (framed c.pop.new.top.rest.now c.pop.new.top.rule c.pop.new.below) _ _ (c.in-Some.ensures ∙ ap (λ i. i ∷ (framed c.pop.new.top.rest.now c.pop.new.top.rule c.pop.new.below)) c.in-Non.is) (c.in_ok-open-in-Some-choose.ensures ∙ ap (λ right. opened right (Done c.in-Some-choose.rule ∷ (framed c.pop.new.top.rest.now c.pop.new.top.rule c.pop.new.below))) c.right.ensures) c.in-Some-choose.ensures c.in_ok-begin-in-Some-choose.ensures

pub returns : goal.returns
returns g c =
    none_left _ _ (g.met.G.Table.lawful c.args.table.now) _ _ _ _ _ _ _ _ c.loop-item.invariant _ g.met.A.Action.begun_unmarked g.met.A.Action.reduced_unmarked
    _ c.in_default.ensures.0 c.in_default.ensures.1

pub returns-in-Kind : goal.returns-in-Kind
returns-in-Kind g c =
    kind_taken _ _ (g.met.G.Table.lawful c.args.table.now) _ _ _ _ _ _ _ _ c.loop-item.invariant _ g.met.A.Action.begun_unmarked g.met.A.Action.reduced_unmarked
    _ (framed c.pop.new.top.rest.now c.pop.new.top.rule c.pop.new.below)
    (c.in-Some.ensures ∙ ap (λ i. i ∷ (framed c.pop.new.top.rest.now c.pop.new.top.rule c.pop.new.below)) (c.in-Kind.is ∙ ap Kind (sym c.from.ensures)))
