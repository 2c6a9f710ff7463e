-- The first fault of a list of parts stands in the first part that has one.
use Rattle.std.proofs.Common.{◌≡◌, ◌∙◌, ℕ, ◌+◌, ◌<◌, List, [], ◌∷◌, ◌++◌, length, drop, get_or, Some, Result, Ok, Err, IfOk, IfErr, ap, sym, subst}
use Rattle.std.proofs.lemmas.List.{drop_more}
use Rattle.ir_shape.specs.declared.fault.ShapeEnd.{ShapeEnd}
use Rattle.ir_shape.specs.declared.fault.ShapeEnd.TheVariants as end
use Rattle.ir_shape.specs.declared.fault.ShapeFault.{ShapeFault}
use Rattle.ir_shape.specs.Shape.{IsEndWithin, IsFirstOf, first_of}

first_joined : (xs ys : List ShapeFault) (f : ShapeFault) → first_of xs ≡ Some f → first_of (xs ++ ys) ≡ Some f
first_joined [] ys f e = cc
first_joined (x ∷ xs) ys f e = e

-- a fault of the first part is the first of all
pub further : (xs ys : List ShapeFault) (e : ShapeEnd) → IsFirstOf xs e → IsFirstOf (xs ++ ys) e
further xs ys (end.Fault f) is = first_joined xs ys f is
further xs ys (end.Limit l) is = absurd is
further xs ys end.Memory is = tt

-- where the first part has none, the others decide
pub behind : (xs ys : List ShapeFault) → xs ≡ [] → (e : ShapeEnd) → IsFirstOf ys e → IsFirstOf (xs ++ ys) e
behind xs ys none e is = subst (λ (zs : List ShapeFault). IsFirstOf (zs ++ ys) e) (sym none) is

-- where those before one of a list have none, and these are its faults and those of the ones behind it
pub in_that : {A : Type 0} (faults : List A → List ShapeFault) (here rest : List ShapeFault) (xs : List A) (k : ℕ) (x : A) (whole : List ShapeFault) → k < length xs → x ≡ get_or xs k x
    → faults (x ∷ drop (k + 1) xs) ≡ here ++ rest → faults (drop k xs) ≡ whole → (e : ShapeEnd) → IsFirstOf here e → IsFirstOf whole e
in_that {A = A} faults here rest xs k x whole within at parts same e is =
    let there : faults (drop k xs) ≡ here ++ rest = ap faults (drop_more xs k x within ∙ ap (λ (y : A). y ∷ drop (k + 1) xs) (sym at)) ∙ parts in
    subst (λ (zs : List ShapeFault). IsFirstOf zs e) (sym there ∙ same) (further here rest e is)

-- where the first faults are none, the others decide
pub others_decide : {A : Type 0} (xs ys : List ShapeFault) → xs ≡ [] → (r : Result A ShapeEnd) → IfErr r (IsFirstOf ys) → IfErr r (IsFirstOf (xs ++ ys))
others_decide xs ys none (Ok a) is = tt
others_decide xs ys none (Err e) is = behind xs ys none e is

-- and there is none where there is none in the others
pub others_fit : {A E : Type 0} (xs ys : List ShapeFault) → xs ≡ [] → (r : Result A E) → IfOk r (λ _. ys ≡ []) → IfOk r (λ _. xs ++ ys ≡ [])
others_fit xs ys none (Ok a) is = ap (λ (zs : List ShapeFault). zs ++ ys) none ∙ is
others_fit xs ys none (Err e) is = tt

-- within the limits, the first fault is why
end_by : (shallow short small : Type 0) (faults : List ShapeFault) → shallow × short × small → (e : ShapeEnd) → IsFirstOf faults e → IsEndWithin shallow short small faults e
end_by shallow short small faults within (end.Fault f) is = (within, is)
end_by shallow short small faults within (end.Limit l) is = absurd is
end_by shallow short small faults within end.Memory is = tt

pub end_of : {A : Type 0} (shallow short small : Type 0) (faults : List ShapeFault) → shallow × short × small → (r : Result A ShapeEnd) → IfErr r (IsFirstOf faults)
    → IfErr r (IsEndWithin shallow short small faults)
end_of shallow short small faults within (Ok a) is = tt
end_of shallow short small faults within (Err e) is = end_by shallow short small faults within e is

pub always_ok : {A E : Type 0} (r : Result A E) (P : Type 0) → P → IfOk r (λ _. P)
always_ok (Ok a) P p = p
always_ok (Err e) P p = tt
