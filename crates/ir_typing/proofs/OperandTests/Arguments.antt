-- Fewer arguments than parameters don't fit.
use Rattle.std.proofs.Common.{◌≡◌, ◌∙◌, ◌<◌, ◌&&◌, Bool, true, false, List, [], ◌∷◌, length, map, refl, sym, ap, arith}
use Rattle.ir_core.specs.declared.functions.Argument.{Argument}
use Rattle.ir_core.specs.Typing.{are_arguments}
use Rattle.ir_types.specs.declared.ty.Ty.{Ty}
use Rattle.ir_types.specs.Same.{same_ty}

with_false : (b : Bool) → (b && false) ≡ false
with_false true = refl
with_false false = refl

pub too_few : {P : Type 0} (type_of : P → Ty) (variadic : Bool) (ps : List P) (few : List Argument) → length few < length ps
    → false ≡ are_arguments variadic (map type_of ps) (map (λ (a : Argument). a.operand.ty) few)
too_few type_of variadic [] few fewer = absurd (omega arith)
too_few type_of variadic (p ∷ ps) [] fewer = refl
too_few type_of variadic (p ∷ ps) (a ∷ few) fewer =
    sym (ap (λ b. same_ty (type_of p) a.operand.ty && b) (sym (too_few type_of variadic ps few (omega arith))) ∙ with_false (same_ty (type_of p) a.operand.ty))
