use Rattle.std.proofs.Common.{sym}
use Rattle.std.proofs.lemmas.Iterator.Adapters.{position_from-zero}
use Rattle.ir_types.specs.Same.{same_name}
use Rattle.ir_typing.specs.ShapeKinds.Held.{names_marked}
use Rattle.ir_typing.proofs.shape_kinds.held.place_of.Goals as goal

pub loop-place-init : goal.loop-place-init
loop-place-init c = sym (position_from-zero (same_name c.args.name.now) (names_marked c.args.row.now))
