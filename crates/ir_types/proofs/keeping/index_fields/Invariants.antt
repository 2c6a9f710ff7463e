use Rattle.std.proofs.Common.{◌≤◌, length, drop}
use Rattle.ir_types.specs.Kept.{AreIndexed, AreListed}
use Rattle.ir_types.proofs.keeping.index_fields.Given as goal

abbrev pub invariant-loop-left : goal.invariant-loop-left
invariant-loop-left l = (l.left ≤ length l.types) × AreIndexed (drop l.left l.types) l.fields × AreListed (drop l.left l.types) l.fields

abbrev pub decreases-loop-left : goal.decreases-loop-left
decreases-loop-left l = l.left
