use Rattle.std.proofs.Common.{◌≡◌, drop}
use Rattle.ir_core.specs.NameIndexes.Among.{is_among}
use Rattle.ir_typing.specs.ShapeKinds.Held.{names_marked}
use Rattle.ir_typing.proofs.shape_kinds.held.is_one_of.Given as goal

abbrev pub invariant-loop-one : goal.invariant-loop-one
invariant-loop-one l = is_among l.name (names_marked (drop l.one-index l.row)) ≡ is_among l.name (names_marked l.row)
