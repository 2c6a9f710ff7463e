-- What lists that are made of lists contain, and what holds of two lists place by place.
use Rattle.std.proofs.Common.{Bool, true, false, cond, List, [], ◌∷◌, ◌++◌, subst, sym}
use Rattle.std.specs.List.{AllZip, Contains, filter, flat_map}
use Rattle.std.proofs.Math.Logic.{⊎_elim}
use Rattle.std.proofs.lemmas.List.Elements.{Contains-append_left, Contains-append_right}
use Rattle.named_modules.proofs.Lists.{contains_behind, contains_cases, contains_here, contains_none}

-- what each of a list says, all of them say
pub contains_flat : {A B : Type 0} (f : A → List B) (xs : List A) (x : A) (y : B) → Contains xs x → Contains (f x) y → Contains (flat_map f xs) y
contains_flat f [] x y there inside = absurd (contains_none x there)
contains_flat f (z ∷ xs) x y there inside =
    ⊎_elim
    (λ e. subst (λ v. Contains (f v ++ flat_map f xs) y) (sym e) (Contains-append_left (f x) (flat_map f xs) y inside))
    (λ more. Contains-append_right (f z) (flat_map f xs) y (contains_flat f xs x y more inside))
    (contains_cases z x xs there)

-- what is kept of a list was there
pub contains_kept : {A : Type 0} (p : A → Bool) (xs : List A) (x : A) → Contains (filter p xs) x → Contains xs x
contains_kept p [] x there = there
contains_kept p (y ∷ xs) x there = by (p y) there (λ more. contains_behind y x xs (contains_kept p xs x more))
  where
    by : (b : Bool) → Contains (cond b (y ∷ filter p xs) (filter p xs)) x → (Contains (filter p xs) x → Contains (y ∷ xs) x) → Contains (y ∷ xs) x
    by true there later = ⊎_elim (λ e. subst (Contains (y ∷ xs)) e (contains_here y xs)) later (contains_cases y x (filter p xs) there)
    by false there later = later there

-- what holds place by place, where it does for each of the first list
pub zip_over : {A B : Type 0} (P Q : A → B → Type 0) (xs : List A) (ys : List B) → ((x : A) (y : B) → Contains xs x → P x y → Q x y) → AllZip P xs ys → AllZip Q xs ys
zip_over P Q [] [] each zip = tt
zip_over P Q [] (y ∷ ys) each zip = absurd zip
zip_over P Q (x ∷ xs) [] each zip = absurd zip
zip_over P Q (x ∷ xs) (y ∷ ys) each zip =
    (each x y (contains_here x xs) zip.0, zip_over P Q xs ys (λ z w there. each z w (contains_behind x z xs there)) zip.1)
