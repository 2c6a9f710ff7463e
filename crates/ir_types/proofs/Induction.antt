-- What holds of each type where it holds of its parts.
use Rattle.std.proofs.Common.{◌≡◌, ◌∙◌, ℕ, List, [], ◌∷◌, map, refl, sym, ap, subst}
use Rattle.std.specs.List.{AllByRecursion}
use Rattle.ir_types.specs.declared.names.Name.{Name}
use Rattle.ir_types.specs.declared.ty.Ty.{Ty, Int, Ptr, Array, Struct, Named, Void, roll-Ty, map-Ty, ind-Ty, fold-Ty, fold-roll-Ty}
use Rattle.ir_types.specs.declared.ty.Ty.TheOpen.{Ty-F}
use Rattle.ir_types.specs.declared.ty.Ty.TheOpen as ty
use Rattle.ir_types.specs.declared.ty.Ty.TheViews.{rolls-Int, rolls-Ptr, rolls-Array, rolls-Struct, rolls-Named, rolls-Void}
use Rattle.ir_types.specs.Folded.{folded}

module _ (P : Ty → Type 0) where
  all_of : (ts : List ((t : Ty) × P t)) → AllByRecursion P (map (λ e. e.0) ts)
  all_of [] = tt
  all_of (e ∷ ts) = (e.1, all_of ts)

  module _
      (int : (width : ℕ) → P (Int width))
      (ptr : (t : Ty) → P t → P (Ptr t))
      (array : (n : ℕ) (t : Ty) → P t → P (Array n t))
      (struct : (ts : List Ty) → AllByRecursion P ts → P (Struct ts))
      (named : (x : Name) → P (Named x))
      (void : P Void)
    where
      level : (y : Ty-F ((t : Ty) × P t)) → P (roll-Ty (map-Ty ((t : Ty) × P t) Ty (λ e. e.0) y))
      level (ty.Int width) = subst P (sym (rolls-Int width)) (int width)
      level (ty.Ptr e) = subst P (sym (rolls-Ptr e.0)) (ptr e.0 e.1)
      level (ty.Array n e) = subst P (sym (rolls-Array n e.0)) (array n e.0 e.1)
      level (ty.Struct es) = subst P (sym (rolls-Struct (map (λ e. e.0) es))) (struct (map (λ e. e.0) es) (all_of es))
      level (ty.Named x) = subst P (sym (rolls-Named x)) (named x)
      level ty.Void = subst P (sym rolls-Void) void

      pub by_parts : (t : Ty) → P t
      by_parts = ind-Ty P (λ x y is. subst (λ z. P (roll-Ty z)) is (level y))

-- a fold at each kind of type
module _ (A : Type 0) (step : Ty-F A → A) where
  pub at_int : (width : ℕ) → fold-Ty A step (Int width) ≡ step (ty.Int width)
  at_int width = ap (fold-Ty A step) (sym (rolls-Int width)) ∙ fold-roll-Ty A step (ty.Int width)

  pub at_ptr : (t : Ty) → fold-Ty A step (Ptr t) ≡ step (ty.Ptr (fold-Ty A step t))
  at_ptr t = ap (fold-Ty A step) (sym (rolls-Ptr t)) ∙ fold-roll-Ty A step (ty.Ptr t)

  pub at_array : (n : ℕ) (t : Ty) → fold-Ty A step (Array n t) ≡ step (ty.Array n (fold-Ty A step t))
  at_array n t = ap (fold-Ty A step) (sym (rolls-Array n t)) ∙ fold-roll-Ty A step (ty.Array n t)

  pub at_struct : (ts : List Ty) → fold-Ty A step (Struct ts) ≡ step (ty.Struct (map (fold-Ty A step) ts))
  at_struct ts = ap (fold-Ty A step) (sym (rolls-Struct ts)) ∙ fold-roll-Ty A step (ty.Struct ts)

  pub at_named : (x : Name) → fold-Ty A step (Named x) ≡ step (ty.Named x)
  at_named x = ap (fold-Ty A step) (sym (rolls-Named x)) ∙ fold-roll-Ty A step (ty.Named x)

  pub at_void : fold-Ty A step Void ≡ step ty.Void
  at_void = ap (fold-Ty A step) (sym rolls-Void) ∙ fold-roll-Ty A step ty.Void

  pub folded_is : (t : Ty) → folded step t ≡ fold-Ty A step t
  folded_is (Int width) = sym (at_int width)
  folded_is (Named x) = sym (at_named x)
  folded_is Void = sym at_void
  folded_is t = refl
