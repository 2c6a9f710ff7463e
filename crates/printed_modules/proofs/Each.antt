-- What holds of each element of a list, and what a list contains that is mapped.
use Rattle.std.proofs.Common.{◌≡◌, List, [], ◌∷◌, map, subst}
use Rattle.std.specs.List.{AllByRecursion, Contains}
use Rattle.std.proofs.Math.Logic.{⊎_elim}
use Rattle.named_modules.proofs.Lists.{contains_behind, contains_cases, contains_here, contains_none}

pub all_to : {A : Type 0} (P : A → Type 0) (xs : List A) → AllByRecursion P xs → (x : A) → Contains xs x → P x
all_to P [] all x there = absurd (contains_none x there)
all_to P (y ∷ ys) all x there = ⊎_elim (λ e. subst P e all.0) (λ more. all_to P ys all.1 x more) (contains_cases y x ys there)

pub all_so : {A : Type 0} (P Q : A → Type 0) → ((x : A) → P x → Q x) → (xs : List A) → AllByRecursion P xs → AllByRecursion Q xs
all_so P Q so [] all = tt
all_so P Q so (x ∷ xs) all = (so x all.0, all_so P Q so xs all.1)

pub all_both : {A : Type 0} (P Q T : A → Type 0) → ((x : A) → P x → Q x → T x) → (xs : List A) → AllByRecursion P xs → AllByRecursion Q xs → AllByRecursion T xs
all_both P Q T so [] ps qs = tt
all_both P Q T so (x ∷ xs) ps qs = (so x ps.0 qs.0, all_both P Q T so xs ps.1 qs.1)

pub all_from_mapped : {A B : Type 0} (P : B → Type 0) (f : A → B) (xs : List A) → AllByRecursion P (map f xs) → AllByRecursion (λ x. P (f x)) xs
all_from_mapped P f [] all = tt
all_from_mapped P f (x ∷ xs) all = (all.0, all_from_mapped P f xs all.1)

pub all_to_mapped : {A B : Type 0} (P : B → Type 0) (f : A → B) (xs : List A) → AllByRecursion (λ x. P (f x)) xs → AllByRecursion P (map f xs)
all_to_mapped P f [] all = tt
all_to_mapped P f (x ∷ xs) all = (all.0, all_to_mapped P f xs all.1)

pub all_contained : {A : Type 0} (P : A → Type 0) (xs : List A) → ((x : A) → Contains xs x → P x) → AllByRecursion P xs
all_contained P [] each = tt
all_contained P (x ∷ xs) each = (each x (contains_here x xs), all_contained P xs (λ y there. each y (contains_behind x y xs there)))

-- ---- mapped lists

pub mapped_there : {A B : Type 0} (f : A → B) (xs : List A) (x : A) → Contains xs x → Contains (map f xs) (f x)
mapped_there f [] x there = absurd (contains_none x there)
mapped_there f (y ∷ ys) x there =
    ⊎_elim (λ e. subst (λ z. Contains (f y ∷ map f ys) (f z)) e (contains_here (f y) (map f ys)))
    (λ more. contains_behind (f y) (f x) (map f ys) (mapped_there f ys x more)) (contains_cases y x ys there)

-- what it is mapped from
pub record From {A B : Type 0} (f : A → B) (xs : List A) (y : B) : Type 0 where
  pub own : A
  pub there : Contains xs own
  pub same : f own ≡ y

pub mapped_from : {A B : Type 0} (f : A → B) (xs : List A) (y : B) → Contains (map f xs) y → From f xs y
mapped_from f [] y there = absurd (contains_none y there)
mapped_from f (x ∷ xs) y there =
    ⊎_elim (λ e. record { own = x; there = contains_here x xs; same = e })
    (λ more. let rest = mapped_from f xs y more in record { own = rest.own; there = contains_behind x rest.own xs rest.there; same = rest.same })
    (contains_cases (f x) y (map f xs) there)
