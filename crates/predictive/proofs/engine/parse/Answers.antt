use Rattle.std.proofs.lemmas.Bool.{MatchBool-at_true, MatchBool-at_false}
use Rattle.predictive.proofs.Framing.{first_row}
use Rattle.predictive.proofs.Holding.{holds_first, holds_next, fault_in, fault_at_end, marked_in, marked_at_end, whole_at}
use Rattle.predictive.proofs.engine.parse.Goals as goal

pub loop-place-init : goal.loop-place-init
loop-place-init g c =
    holds_first _ _ (g.met.G.Table.lawful c.args.table.now) _ _ _ _ _ c.requires _ (first_row c.args.start 0 c.new-below.result c.new-below.ensures)

pub returns-then-not-branch-clause-answer : goal.returns-then-not-branch-clause-answer
returns-then-not-branch-clause-answer g c =
    fault_in _ _ (g.met.G.Table.lawful c.args.table.now) _ _ _ _ _ _ _ _ _ _ c.loop-place-test.true c.from-ahead.ensures c.loop-place.invariant
    (MatchBool-at_false _ _ c.if-not-branch.true c.in_ok-advance.ensures).0

pub returns-then-not-branch-clause-mark : goal.returns-then-not-branch-clause-mark
returns-then-not-branch-clause-mark g c =
    marked_in _ _ (g.met.G.Table.lawful c.args.table.now) _ _ _ _ _ _ g.met.A.Action.begun_unmarked g.met.A.Action.reduced_unmarked c.requires _ _ _ _ _
    c.loop-place-test.true c.loop-place.invariant (MatchBool-at_false _ _ c.if-not-branch.true c.in_ok-advance.ensures).1

pub loop-place-preserved : goal.loop-place-preserved
loop-place-preserved g c =
    holds_next _ _ (g.met.G.Table.lawful c.args.table.now) _ _ _ _ _ _ _ _ _ _ _ _ _ c.loop-place-test.true c.from-ahead.ensures c.loop-place.invariant
    (MatchBool-at_true _ _ c.if-not-branch.false c.in_ok-advance.ensures) c.in_ok-shift.ensures

pub returns-then-branch-clause-answer : goal.returns-then-branch-clause-answer
returns-then-branch-clause-answer g c =
    whole_at _ _ (g.met.G.Table.lawful c.args.table.now) _ _ _ _ _ _ _ _ _ _ _ c.loop-place-test.false c.loop-place.invariant
    (MatchBool-at_true _ _ c.if-branch.true c.in_ok-advance-2.ensures)

pub returns-clause-answer : goal.returns-clause-answer
returns-clause-answer g c =
    fault_at_end _ _ (g.met.G.Table.lawful c.args.table.now) _ _ _ _ _ _ _ _ _ c.loop-place-test.false c.loop-place.invariant
    (MatchBool-at_false _ _ c.if-branch.false c.in_ok-advance-2.ensures).0

pub returns-clause-mark : goal.returns-clause-mark
returns-clause-mark g c =
    marked_at_end _ _ (g.met.G.Table.lawful c.args.table.now) _ _ _ _ _ _ g.met.A.Action.begun_unmarked g.met.A.Action.reduced_unmarked c.requires _ _ _ _ _
    c.loop-place-test.false c.loop-place.invariant (MatchBool-at_false _ _ c.if-branch.false c.in_ok-advance-2.ensures).1
