-- What holds of each constant where it holds of the constants in it, and a fold at each kind of constant.
use Rattle.std.proofs.Common.{◌≡◌, ◌∙◌, ℕ, Bool, List, [], ◌∷◌, map, sym, ap, subst}
use Rattle.std.specs.List.{AllByRecursion}
use Rattle.ir_types.specs.declared.names.Name.{Name}
use Rattle.ir_types.specs.declared.ty.Ty.{Ty}
use Rattle.ir_core.specs.declared.operands.Const.{Const, Number, Undef, Null, Global, Element, Cast, roll-Const, map-Const, ind-Const, fold-Const, fold-roll-Const}
use Rattle.ir_core.specs.declared.operands.Const.TheOpen.{Const-F}
use Rattle.ir_core.specs.declared.operands.Const.TheOpen as constant
use Rattle.ir_core.specs.declared.operands.Const.TheViews.{rolls-Number, rolls-Undef, rolls-Null, rolls-Global, rolls-Element, rolls-Cast}

-- each of the constants behind their types
abbrev pub EachOf : (Const → Type 0) → List (Ty × Const) → Type 0
EachOf P = AllByRecursion (λ (c : Ty × Const). P c.1)

module _ (P : Const → Type 0) where
  all_of : (es : List (Ty × ((c : Const) × P c))) → EachOf P (map (λ e. (e.0, e.1.0)) es)
  all_of [] = tt
  all_of (e ∷ es) = (e.1.1, all_of es)

  module _
      (number : (n : ℕ) → P (Number n))
      (undef : P Undef)
      (null : P Null)
      (global : (x : Name) → P (Global x))
      (element : (inbounds : Bool) (of : Ty) (cs : List (Ty × Const)) → EachOf P cs → P (Element (inbounds, of, cs)))
      (cast : (to : Ty) (cs : List (Ty × Const)) → EachOf P cs → P (Cast (to, cs)))
    where
      level : (y : Const-F ((c : Const) × P c)) → P (roll-Const (map-Const ((c : Const) × P c) Const (λ e. e.0) y))
      level (constant.Number n) = subst P (sym (rolls-Number n)) (number n)
      level constant.Undef = subst P (sym rolls-Undef) undef
      level constant.Null = subst P (sym rolls-Null) null
      level (constant.Global x) = subst P (sym (rolls-Global x)) (global x)
      level (constant.Element a) =
          subst P (sym (rolls-Element (a.0, a.1, map (λ e. (e.0, e.1.0)) a.2))) (element a.0 a.1 (map (λ e. (e.0, e.1.0)) a.2) (all_of a.2))
      level (constant.Cast a) = subst P (sym (rolls-Cast (a.0, map (λ e. (e.0, e.1.0)) a.1))) (cast a.0 (map (λ e. (e.0, e.1.0)) a.1) (all_of a.1))

      pub by_parts : (c : Const) → P c
      by_parts = ind-Const P (λ x y is. subst (λ z. P (roll-Const z)) is (level y))

-- a fold at each kind of constant
module _ (A : Type 0) (step : Const-F A → A) where
  -- what it gives of the constants behind their types
  abbrev pub folded_parts : List (Ty × Const) → List (Ty × A)
  folded_parts = map (λ c. (c.0, fold-Const A step c.1))

  pub at_number : (n : ℕ) → fold-Const A step (Number n) ≡ step (constant.Number n)
  at_number n = ap (fold-Const A step) (sym (rolls-Number n)) ∙ fold-roll-Const A step (constant.Number n)

  pub at_undef : fold-Const A step Undef ≡ step constant.Undef
  at_undef = ap (fold-Const A step) (sym rolls-Undef) ∙ fold-roll-Const A step constant.Undef

  pub at_null : fold-Const A step Null ≡ step constant.Null
  at_null = ap (fold-Const A step) (sym rolls-Null) ∙ fold-roll-Const A step constant.Null

  pub at_global : (x : Name) → fold-Const A step (Global x) ≡ step (constant.Global x)
  at_global x = ap (fold-Const A step) (sym (rolls-Global x)) ∙ fold-roll-Const A step (constant.Global x)

  pub at_element : (inbounds : Bool) (of : Ty) (cs : List (Ty × Const)) → fold-Const A step (Element (inbounds, of, cs)) ≡ step (constant.Element (inbounds, of, folded_parts cs))
  at_element inbounds of cs = ap (fold-Const A step) (sym (rolls-Element (inbounds, of, cs))) ∙ fold-roll-Const A step (constant.Element (inbounds, of, cs))

  pub at_cast : (to : Ty) (cs : List (Ty × Const)) → fold-Const A step (Cast (to, cs)) ≡ step (constant.Cast (to, folded_parts cs))
  at_cast to cs = ap (fold-Const A step) (sym (rolls-Cast (to, cs))) ∙ fold-roll-Const A step (constant.Cast (to, cs))
