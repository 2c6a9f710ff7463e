-- Tests that are joined, what holds of each of a list, and lists of kinds.
use Rattle.std.proofs.Common.{sym, drop, map, ◌≡◌, ◌∙◌, ◌&&◌, ℕ, suc, zero, ◌+◌, ◌<◌, Bool, true, false, not, List, [], ◌∷◌, ◌++◌, length, get_or, Option, None, Some, refl, ap, subst, arith}
use Rattle.std.proofs.lemmas.List.{drop_more}
use Rattle.std.specs.List.{AllByRecursion, Contains, flat_map, list_all}
use Rattle.ir_typing.specs.declared.shape_kinds.kind.ShapeKind.{ShapeKind}
use Rattle.ir_typing.specs.ShapeKinds.Kinds.{fault_unless, least, least_of}

-- ---- tests

pub with_true : (b : Bool) → (b && true) ≡ b
with_true true = refl
with_true false = refl

pub both_left : (a b : Bool) → (a && b) ≡ true → a ≡ true
both_left true b e = refl
both_left false b e = e

pub both_right : (a b : Bool) → (a && b) ≡ true → b ≡ true
both_right true b e = e
both_right false b e = cc

pub both_hold : (a b : Bool) → a ≡ true → b ≡ true → (a && b) ≡ true
both_hold a b e f = ap (λ t. t && b) e ∙ f

pub both_assoc : (a b c : Bool) → ((a && b) && c) ≡ (a && (b && c))
both_assoc true b c = refl
both_assoc false b c = refl

pub not_true : (b : Bool) → not b ≡ true → b ≡ false
not_true true e = cc
not_true false e = refl

-- ---- kinds

pub fits_by : (b : Bool) (k : ShapeKind) → fault_unless b k ≡ None → b ≡ true
fits_by true k e = refl
fits_by false k e = cc

pub none_by : (b : Bool) (k : ShapeKind) → b ≡ true → fault_unless b k ≡ None
none_by b k e = ap (λ t. fault_unless t k) e

pub least_none_left : (a b : Option ShapeKind) → least a b ≡ None → a ≡ None
least_none_left None b e = refl
least_none_left (Some k) None e = absurd (cc)
least_none_left (Some k) (Some l) e = absurd (cc)

pub least_none_right : (a b : Option ShapeKind) → least a b ≡ None → b ≡ None
least_none_right None b e = e
least_none_right (Some k) None e = refl
least_none_right (Some k) (Some l) e = absurd (cc)

pub both_none : (a b : Option ShapeKind) → a ≡ None → b ≡ None → least a b ≡ None
both_none a b e f = ap (λ k. least k b) e ∙ f

-- of many there is none where each has none
pub each_none : {A : Type 0} (g : A → Option ShapeKind) (xs : List A) → least_of (map g xs) ≡ None → AllByRecursion (λ x. g x ≡ None) xs
each_none g [] e = tt
each_none g (x ∷ xs) e =
    (least_none_left (g x) (least_of (map g xs)) e, each_none g xs (least_none_right (g x) (least_of (map g xs)) e))

pub all_none : {A : Type 0} (g : A → Option ShapeKind) (xs : List A) → AllByRecursion (λ x. g x ≡ None) xs → least_of (map g xs) ≡ None
all_none g [] all = refl
all_none g (x ∷ xs) all = both_none (g x) (least_of (map g xs)) all.0 (all_none g xs all.1)

-- ---- lists that are joined

pub left_none : {A : Type 0} (xs ys : List A) → xs ++ ys ≡ [] → xs ≡ []
left_none [] ys e = refl
left_none (x ∷ xs) ys e = cc

pub right_none : {A : Type 0} (xs ys : List A) → xs ++ ys ≡ [] → ys ≡ []
right_none [] ys e = e
right_none (x ∷ xs) ys e = cc

pub joined_none : {A : Type 0} (xs ys : List A) → xs ≡ [] → ys ≡ [] → xs ++ ys ≡ []
joined_none xs ys e f = ap (λ zs. zs ++ ys) e ∙ f

-- ---- what holds of each of a list

pub mapped_all : {A : Type 0} (P Q : A → Type 0) → ((x : A) → P x → Q x) → (xs : List A) → AllByRecursion P xs → AllByRecursion Q xs
mapped_all P Q each [] all = tt
mapped_all P Q each (x ∷ xs) all = (each x all.0, mapped_all P Q each xs all.1)

pub all_joined : {A : Type 0} (P : A → Type 0) (xs ys : List A) → AllByRecursion P xs → AllByRecursion P ys → AllByRecursion P (xs ++ ys)
all_joined P [] ys this that = that
all_joined P (x ∷ xs) ys this that = (this.0, all_joined P xs ys this.1 that)

pub all_left : {A : Type 0} (P : A → Type 0) (xs ys : List A) → AllByRecursion P (xs ++ ys) → AllByRecursion P xs
all_left P [] ys all = tt
all_left P (x ∷ xs) ys all = (all.0, all_left P xs ys all.1)

pub all_right : {A : Type 0} (P : A → Type 0) (xs ys : List A) → AllByRecursion P (xs ++ ys) → AllByRecursion P ys
all_right P [] ys all = all
all_right P (x ∷ xs) ys all = all_right P xs ys all.1

pub all_flat : {A B : Type 0} (P : B → Type 0) (g : A → List B) (xs : List A) → AllByRecursion (λ x. AllByRecursion P (g x)) xs → AllByRecursion P (flat_map g xs)
all_flat P g [] all = tt
all_flat P g (x ∷ xs) all = all_joined P (g x) (flat_map g xs) all.0 (all_flat P g xs all.1)

pub all_parts : {A B : Type 0} (P : B → Type 0) (g : A → List B) (xs : List A) → AllByRecursion P (flat_map g xs) → AllByRecursion (λ x. AllByRecursion P (g x)) xs
all_parts P g [] all = tt
all_parts P g (x ∷ xs) all = (all_left P (g x) (flat_map g xs) all, all_parts P g xs (all_right P (g x) (flat_map g xs) all))

pub each_tested : {A : Type 0} (p : A → Bool) (xs : List A) → list_all p xs ≡ true → AllByRecursion (λ x. p x ≡ true) xs
each_tested p [] e = tt
each_tested p (x ∷ xs) e = (both_left (p x) (list_all p xs) e, each_tested p xs (both_right (p x) (list_all p xs) e))

pub all_tested : {A : Type 0} (p : A → Bool) (xs : List A) → AllByRecursion (λ x. p x ≡ true) xs → list_all p xs ≡ true
all_tested p [] all = refl
all_tested p (x ∷ xs) all = both_hold (p x) (list_all p xs) all.0 (all_tested p xs all.1)

pub all_there : {A : Type 0} (P : A → Type 0) (xs : List A) → ((x : A) → Contains xs x → P x) → AllByRecursion P xs
all_there P [] each = tt
all_there P (x ∷ xs) each = (each x (0, omega arith, refl), all_there P xs (λ y there. each y (suc there.0, omega (arith, there.1), there.2)))

pub one_there : {A : Type 0} (P : A → Type 0) (xs : List A) (x : A) → AllByRecursion P xs → Contains xs x → P x
one_there {A = A} P xs x all there = subst P there.2 (go xs there.0 there.1 all)
  where
    go : (xs : List A) (k : ℕ) → k < length xs → AllByRecursion P xs → P (get_or xs k x)
    go [] k within all = absurd (omega arith)
    go (y ∷ xs) zero within all = all.0
    go (y ∷ xs) (suc k) within all = go xs k (omega arith) all.1

-- ---- a test of each of a list, one step on

all_step : {A B : Type 0} (p : B → Bool) (g : A → B) (xs : List A) (k : ℕ) (x : A) → k < length xs → x ≡ get_or xs k x
    → list_all p (map g (drop k xs)) ≡ (p (g x) && list_all p (map g (drop (k + 1) xs)))
all_step {A = A} p g xs k x within at = ap (λ (ys : List A). list_all p (map g ys)) (drop_more xs k x within ∙ ap (λ (y : A). y ∷ drop (k + 1) xs) (sym at))

pub all_more : {A B : Type 0} (p : B → Bool) (g : A → B) (xs : List A) (k : ℕ) (x : A) → k < length xs → x ≡ get_or xs k x → p (g x) ≡ true
    → list_all p (map g (drop k xs)) ≡ list_all p (map g xs) → list_all p (map g (drop (k + 1) xs)) ≡ list_all p (map g xs)
all_more p g xs k x within at here so_far =
    sym (ap (λ b. b && list_all p (map g (drop (k + 1) xs))) here) ∙ sym (all_step p g xs k x within at) ∙ so_far

pub all_stops : {A B : Type 0} (p : B → Bool) (g : A → B) (xs : List A) (k : ℕ) (x : A) → k < length xs → x ≡ get_or xs k x → p (g x) ≡ false
    → list_all p (map g (drop k xs)) ≡ list_all p (map g xs) → false ≡ list_all p (map g xs)
all_stops p g xs k x within at here so_far =
    sym (ap (λ b. b && list_all p (map g (drop (k + 1) xs))) here) ∙ sym (all_step p g xs k x within at) ∙ so_far
