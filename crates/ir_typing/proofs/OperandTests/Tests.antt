-- Where of several kinds there is none, and what a test says.
use Rattle.std.proofs.Common.{◌≡◌, ◌↔◌, ◌&&◌, Bool, true, false, List, [], ◌∷◌, map, Option, None, Some, refl, ap, ◌∙◌}
use Rattle.std.specs.List.{AllByRecursion, list_all}
use Rattle.ir_types.specs.NameLaws.{all_true, left_true, right_true}
use Rattle.ir_typing.specs.declared.shape_kinds.kind.ShapeKind.{ShapeKind}
use Rattle.ir_typing.specs.ShapeKinds.Kinds.{fault_unless, least, least_of}

-- ---- equivalences

pub alike : (A : Type 0) → A ↔ A
alike A = (λ a. a, λ a. a)

pub through : {A B C : Type 0} → A ↔ B → B ↔ C → A ↔ C
through p q = (λ a. q.0 (p.0 a), λ c. p.1 (q.1 c))

pub turned : {A B : Type 0} → A ↔ B → B ↔ A
turned p = (p.1, p.0)

-- ---- kinds

pub fits_by : (b : Bool) (k : ShapeKind) → fault_unless b k ≡ None → b ≡ true
fits_by true k e = refl
fits_by false k e = cc

pub none_by : (b : Bool) (k : ShapeKind) → b ≡ true → fault_unless b k ≡ None
none_by b k e = ap (λ t. fault_unless t k) e

-- there is no fault where the test is passed
pub unless_fits : (b : Bool) (k : ShapeKind) → (fault_unless b k ≡ None) ↔ (b ≡ true)
unless_fits b k = (fits_by b k, none_by b k)

pub left_none : (a b : Option ShapeKind) → least a b ≡ None → a ≡ None
left_none None b e = refl
left_none (Some k) None e = absurd (cc)
left_none (Some k) (Some l) e = absurd (cc)

pub right_none : (a b : Option ShapeKind) → least a b ≡ None → b ≡ None
right_none None b e = e
right_none (Some k) None e = refl
right_none (Some k) (Some l) e = absurd (cc)

pub both_none : (a b : Option ShapeKind) → a ≡ None → b ≡ None → least a b ≡ None
both_none a b e f = ap (λ k. least k b) e ∙ f

-- of two there is none where each is none
pub none_of_two : (a b : Option ShapeKind) → (least a b ≡ None) ↔ ((a ≡ None) × (b ≡ None))
none_of_two a b = (λ e. (left_none a b e, right_none a b e), λ both. both_none a b both.0 both.1)

-- two kinds beside two tests
pub joined : (a b : Option ShapeKind) (x y : Bool) → (a ≡ None) ↔ (x ≡ true) → (b ≡ None) ↔ (y ≡ true) → (least a b ≡ None) ↔ ((x && y) ≡ true)
joined a b x y here there = (
  λ e. all_true (here.0 (left_none a b e)) (there.0 (right_none a b e)),
  λ e. both_none a b (here.1 (left_true x y e)) (there.1 (right_true x y e)),
)

-- of many there is none where each is none
pub none_of_many : {A : Type 0} (g : A → Option ShapeKind) (xs : List A) → (least_of (map g xs) ≡ None) ↔ AllByRecursion (λ x. g x ≡ None) xs
none_of_many g [] = (λ e. tt, λ all. refl)
none_of_many g (x ∷ xs) =
    let more = none_of_many g xs in (
      λ e. (left_none (g x) (least_of (map g xs)) e, more.0 (right_none (g x) (least_of (map g xs)) e)),
      λ all. both_none (g x) (least_of (map g xs)) all.0 (more.1 all.1),
    )

-- ---- a test of each of a list

pub all_tested : {A : Type 0} (p : A → Bool) (P : A → Type 0) → ((x : A) → (p x ≡ true) ↔ P x) → (xs : List A) → (list_all p xs ≡ true) ↔ AllByRecursion P xs
all_tested p P each [] = (λ e. tt, λ all. refl)
all_tested p P each (x ∷ xs) =
    let here = each x in
    let more = all_tested p P each xs in (
      λ e. (here.0 (left_true (p x) (list_all p xs) e), more.0 (right_true (p x) (list_all p xs) e)),
      λ all. all_true (here.1 all.0) (more.1 all.1),
    )
