-- What holds of each item of a list.
use Rattle.std.proofs.Common.{◌≡◌, Bool, true, List, [], ◌∷◌, refl, subst, arith, ⊎_elim}
use Rattle.std.specs.List.{AllByRecursion, Contains, list_all}
use Rattle.std.proofs.lemmas.Bool.{and_from}
use Rattle.named_modules.proofs.Lists.{contains_cases}

pub all_over : {A : Type 0} (P Q : A → Type 0) (xs : List A) → ((x : A) → P x → Q x) → AllByRecursion P xs → AllByRecursion Q xs
all_over P Q [] over all = tt
all_over P Q (x ∷ xs) over all = (over x all.0, all_over P Q xs over all.1)

pub all_to : {A : Type 0} (P : A → Type 0) (xs : List A) → AllByRecursion P xs → (x : A) → Contains xs x → P x
all_to P [] all x there = absurd (omega (arith, there.1))
all_to P (y ∷ ys) all x there =
    ⊎_elim (λ e. subst P e all.0) (λ more. all_to P ys all.1 x more) (contains_cases y x ys there)

-- a test that each item passes
pub each_passes : {A : Type 0} (P : A → Type 0) (p : A → Bool) → ((x : A) → P x → p x ≡ true) → (xs : List A) → AllByRecursion P xs → list_all p xs ≡ true
each_passes P p passes [] all = refl
each_passes P p passes (x ∷ xs) all = and_from (p x) (list_all p xs) (passes x all.0) (each_passes P p passes xs all.1)
