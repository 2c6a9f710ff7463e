use Rattle.ir_types.specs.Kept.{AlignsArePositive, ArePartlyKept, value_of}
use Rattle.ir_types.proofs.keeping.keep_in_order.Given as goal

abbrev pub invariant-loop-place : goal.invariant-loop-place
invariant-loop-place l = AlignsArePositive (value_of l.layouts) × ArePartlyKept l.types (value_of l.layouts)
