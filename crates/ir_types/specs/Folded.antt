-- Folds over the parts of types.
use Rattle.ir_types.specs.declared.ty.Ty.{Ty, Int, Named, Void, fold-Ty}
use Rattle.ir_types.specs.declared.ty.Ty.TheOpen.{Ty-F}
use Rattle.ir_types.specs.declared.ty.Ty.TheOpen as ty

-- What the step gives of a type, once it is known of each part. Of a type without parts it is computed at once.
abbrev pub folded : {A : Type 0} → (Ty-F A → A) → Ty → A
folded step (Int width) = step (ty.Int width)
folded step (Named x) = step (ty.Named x)
folded step Void = step ty.Void
folded {A} step t = fold-Ty A step t
