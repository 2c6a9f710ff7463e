use Rattle.std.proofs.Common.{◌≡◌, drop}
use Rattle.ir_typing.specs.ShapeKinds.Kept.{entries_told, found_among}
use Rattle.ir_typing.proofs.shape_kinds.held_types.place_in.Given as goal

abbrev pub invariant-loop-place : goal.invariant-loop-place
invariant-loop-place l = found_among (entries_told (drop l.place l.row)) l.name ≡ found_among (entries_told l.row) l.name
