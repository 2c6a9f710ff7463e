use Rattle.ir_types.specs.Kept.{AlignsArePositive, ArePartlyKept, value_of, missing_of}
use Rattle.ir_types.proofs.keeping.keep_layouts.Given as goal

abbrev pub invariant-loop-layouts : goal.invariant-loop-layouts
invariant-loop-layouts l = AlignsArePositive (value_of l.layouts) × ArePartlyKept l.types (value_of l.layouts)

abbrev pub decreases-loop-layouts : goal.decreases-loop-layouts
decreases-loop-layouts l = missing_of (value_of l.layouts) l.types
