use Rattle.std.proofs.Common.{◌∙◌, sym, arith}
use Rattle.ir_typing.proofs.ShapeKinds.Places.{here, nowhere}
use Rattle.ir_typing.proofs.shape_kinds.held_types.place_in.Goals as goal

pub returns-then-is_it : goal.returns-then-is_it
returns-then-is_it c =
    here c.args.row.now c.args.name.now c.loop-place.place c.index-row-place.result c.loop-place-test.true c.index-row-place.is (sym c.is_it.ensures ∙ c.if-is_it.true)
    c.loop-place.invariant

pub returns : goal.returns
returns c = nowhere c.args.row.now c.args.name.now c.loop-place.place (omega arith) c.loop-place.invariant
