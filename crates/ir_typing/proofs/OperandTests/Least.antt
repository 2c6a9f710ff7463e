-- The least of several kinds, and of those of a list.
use Rattle.std.proofs.Common.{◌≡◌, ◌∙◌, ◌+◌, ◌<◌, ℕ, Bool, true, false, cond, ltb, List, ◌∷◌, drop, get_or, length, map, Option, None, Some, refl, sym, ap, arith}
use Rattle.std.proofs.lemmas.Bool.{ltb-true, ltb-false}
use Rattle.std.proofs.lemmas.List.{drop_more}
use Rattle.ir_typing.specs.declared.shape_kinds.kind.ShapeKind.{ShapeKind}
use Rattle.ir_typing.specs.ShapeKinds.Kinds.{least, least_of, order_of}

-- the first of two
abbrev first : ShapeKind → ShapeKind → ShapeKind
first x y = cond (ltb (order_of y) (order_of x)) y x

first_assoc : (x y z : ShapeKind) → first (first x y) z ≡ first x (first y z)
first_assoc x y z = go (ltb (order_of y) (order_of x)) (ltb (order_of z) (order_of y)) (ltb (order_of z) (order_of x)) refl refl refl
  where
    go : (p q r : Bool) → ltb (order_of y) (order_of x) ≡ p → ltb (order_of z) (order_of y) ≡ q → ltb (order_of z) (order_of x) ≡ r → first (cond p y x) z ≡ first x (cond q z y)
    go true true true a b c = ap (λ t. cond t z y) b ∙ sym (ap (λ t. cond t z x) c)
    go true true false a b c = absurd (omega (arith, ltb-true _ _ a, ltb-true _ _ b, ltb-false _ _ c))
    go true false r a b c = ap (λ t. cond t z y) b ∙ sym (ap (λ t. cond t y x) a)
    go false true r a b c = refl
    go false false true a b c = absurd (omega (arith, ltb-false _ _ a, ltb-false _ _ b, ltb-true _ _ c))
    go false false false a b c = ap (λ t. cond t z x) c ∙ sym (ap (λ t. cond t y x) a)

pub least_assoc : (a b c : Option ShapeKind) → least (least a b) c ≡ least a (least b c)
least_assoc None b c = refl
least_assoc (Some x) None c = refl
least_assoc (Some x) (Some y) None = refl
least_assoc (Some x) (Some y) (Some z) = ap (λ k. Some k) (first_assoc x y z)

pub least_none : (a : Option ShapeKind) → least a None ≡ a
least_none None = refl
least_none (Some x) = refl

-- one of a list more: what is wrong so far, with it, and with those behind it
pub one_more : {A : Type 0} (kind_of : A → Option ShapeKind) (before now here all : Option ShapeKind) (xs : List A) (k : ℕ) (x : A) → k < length xs → x ≡ get_or xs k x
    → here ≡ kind_of x → now ≡ least before here → least before (least_of (map kind_of (drop k xs))) ≡ all → least now (least_of (map kind_of (drop (k + 1) xs))) ≡ all
one_more {A} kind_of before now here all xs k x inside is fault kept so_far =
    let rest = least_of (map kind_of (drop (k + 1) xs)) in
    ap (λ (o : Option ShapeKind). least o rest) (kept ∙ ap (least before) fault) ∙ least_assoc before (kind_of x) rest
    ∙ sym (ap (λ (ys : List A). least before (least_of (map kind_of ys))) (drop_more xs k x inside ∙ ap (λ (y : A). y ∷ drop (k + 1) xs) (sym is))) ∙ so_far
