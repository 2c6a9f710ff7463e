use Rattle.std.proofs.Common.{◌≡◌, drop}
use Rattle.std.specs.List.{position_from}
use Rattle.ir_types.specs.Same.{same_name}
use Rattle.ir_core.specs.NameIndexes.Among.{place_among}
use Rattle.ir_typing.specs.ShapeKinds.Held.{names_marked}
use Rattle.ir_typing.proofs.shape_kinds.held.place_of.Given as goal

abbrev pub invariant-loop-place : goal.invariant-loop-place
invariant-loop-place l = position_from (same_name l.name) l.place (names_marked (drop l.place l.row)) ≡ place_among l.name (names_marked l.row)
