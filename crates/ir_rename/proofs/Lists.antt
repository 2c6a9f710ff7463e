-- Lists of names: what they contain, and names that are lent.
use Rattle.std.proofs.Common.{◌≡◌, ◌∙◌, ◌⊎◌, ⊎_elim, inl, inr, ℕ, zero, suc, ◌<◌, ◌+◌, Bool, true, false, List, [], ◌∷◌, ◌++◌, length, get_or, map, drop, take, refl, sym, ap, subst, append_assoc, arith}
use Rattle.std.proofs.Math.Seq.{drop-cons}
use Rattle.std.specs.Borrow.{Bor}
use Rattle.std.specs.List.{AllByRecursion, AllZip, Contains}
use Rattle.ir_types.specs.declared.names.Name.{Name}
use Rattle.ir_types.specs.NameLaws.{same_name_true}
use Rattle.ir_types.specs.Same.{same_name}
use Rattle.ir_rename.specs.Lent.{lent}

pub length_mapped : {A B : Type 0} (f : A → B) (xs : List A) → length (map f xs) ≡ length xs
length_mapped f [] = refl
length_mapped f (x ∷ xs) = ap suc (length_mapped f xs)

pub lent_many : (names : List (Bor Name)) → length (lent names) ≡ length names
lent_many names = length_mapped (λ (name : Bor Name). name.now) names

-- ---- what a list contains

pub none_in : {A : Type 0} (x : A) → Contains [] x → ⊥
none_in x there = omega (arith, there.1)

pub here : {A : Type 0} (x : A) (xs : List A) → Contains (x ∷ xs) x
here x xs = (0, omega arith, refl)

pub behind : {A : Type 0} (x y : A) (ys : List A) → Contains ys y → Contains (x ∷ ys) y
behind x y ys there = (suc there.0, omega (arith, there.1), there.2)

-- it is the first or one behind it
pub cases : {A : Type 0} (x y : A) (xs : List A) → Contains (x ∷ xs) y → (x ≡ y) ⊎ Contains xs y
cases x y xs there = at there.0 there.1 there.2
  where
    at : (k : ℕ) → k < length (x ∷ xs) → get_or (x ∷ xs) k y ≡ y → (x ≡ y) ⊎ Contains xs y
    at zero inside e = inl e
    at (suc k) inside e = inr (k, omega (arith, inside), e)

pub all_to : {A : Type 0} (P : A → Type 0) (xs : List A) → AllByRecursion P xs → (x : A) → Contains xs x → P x
all_to P [] all x there = absurd (none_in x there)
all_to P (y ∷ ys) all x there = ⊎_elim (λ e. subst P e all.0) (λ more. all_to P ys all.1 x more) (cases y x ys there)

pub all_from : {A : Type 0} (P : A → Type 0) (xs : List A) → ((x : A) → Contains xs x → P x) → AllByRecursion P xs
all_from P [] each = tt
all_from P (x ∷ xs) each = (each x (here x xs), all_from P xs (λ y there. each y (behind x y xs there)))

pub all_mapped : {A B : Type 0} (P : B → Type 0) (f : A → B) (xs : List A) → AllByRecursion (λ x. P (f x)) xs → AllByRecursion P (map f xs)
all_mapped P f [] all = tt
all_mapped P f (x ∷ xs) all = (all.0, all_mapped P f xs all.1)

pub zip_mapped : {A B : Type 0} (R : A → B → Type 0) (f : A → B) (xs : List A) → AllByRecursion (λ x. R x (f x)) xs → AllZip R xs (map f xs)
zip_mapped R f [] all = tt
zip_mapped R f (x ∷ xs) all = (all.0, zip_mapped R f xs all.1)

-- where two words agree on each of the list
pub same_mapped : {A B : Type 0} (f g : A → B) (xs : List A) → ((x : A) → Contains xs x → f x ≡ g x) → map f xs ≡ map g xs
same_mapped f g [] same = refl
same_mapped f g (x ∷ xs) same =
    ap (λ y. y ∷ map f xs) (same x (here x xs)) ∙ ap (λ ys. g x ∷ ys) (same_mapped f g xs (λ y there. same y (behind x y xs there)))

-- ---- names, by the test that computes

pub same_or : (x y : Name) → (x ≡ y) ⊎ (same_name x y ≡ false)
same_or x y = by (same_name x y) refl
  where
    by : (b : Bool) → same_name x y ≡ b → (x ≡ y) ⊎ (same_name x y ≡ false)
    by true e = inl (same_name_true x y e)
    by false e = inr e

pub differ : (x y : Name) → (x ≡ y → ⊥) → same_name x y ≡ false
differ x y apart = ⊎_elim (λ e. absurd (apart e)) (λ e. e) (same_or x y)

-- ---- places

pub append_cases : {A : Type 0} (xs ys : List A) (z : A) → Contains (xs ++ ys) z → Contains xs z ⊎ Contains ys z
append_cases [] ys z there = inr there
append_cases (x ∷ xs) ys z there =
    ⊎_elim
    (λ e. inl (subst (Contains (x ∷ xs)) e (here x xs)))
    (λ more. ⊎_elim (λ left. inl (behind x z xs left)) (λ right. inr right) (append_cases xs ys z more))
    (cases x z (xs ++ ys) there)

-- what is among the first k stands at a place before the k-th
pub in_taken : {A : Type 0} (k : ℕ) (xs : List A) (x : A) → Contains (take k xs) x → (j : ℕ) × (j < k) × (j < length xs) × (get_or xs j x ≡ x)
in_taken zero xs x there = absurd (none_in x there)
in_taken (suc k) [] x there = absurd (none_in x there)
in_taken (suc k) (y ∷ xs) x there =
    ⊎_elim
    (λ e. (0, omega arith, omega arith, e))
    (λ more. let place = in_taken k xs x more in (suc place.0, omega (arith, place.1), omega (arith, place.2), place.3))
    (cases y x (take k xs) there)

-- where a word keeps each of the list
pub all_kept : {A : Type 0} (f : A → A) (xs : List A) → ((x : A) → Contains xs x → f x ≡ x) → map f xs ≡ xs
all_kept f [] same = refl
all_kept f (x ∷ xs) same =
    ap (λ y. y ∷ map f xs) (same x (here x xs)) ∙ ap (λ ys. x ∷ ys) (all_kept f xs (λ y there. same y (behind x y xs there)))

-- one item more, under a word
pub pushed : {A B : Type 0} (f : A → B) (xs : List A) (i : ℕ) (x : A) (ys new : List B) (y : B) → i < length xs → x ≡ get_or xs i x → y ≡ f x → new ≡ ys ++ y ∷ []
    → ys ++ map f (drop i xs) ≡ map f xs → new ++ map f (drop (i + 1) xs) ≡ map f xs
pushed f xs i x ys new y inside at is added so_far =
    ap (λ zs. zs ++ map f (drop (i + 1) xs)) added
    ∙ append_assoc ys (y ∷ []) (map f (drop (i + 1) xs))
    ∙ ap (λ z. ys ++ z ∷ map f (drop (i + 1) xs)) (is ∙ ap f at)
    ∙ ap (λ n. ys ++ f (get_or xs i x) ∷ map f (drop n xs)) (one_more i)
    ∙ ap (λ zs. ys ++ map f zs) (sym (drop-cons xs i x inside))
    ∙ so_far
  where
    one_more : (n : ℕ) → n + 1 ≡ suc n
    one_more n = omega arith
