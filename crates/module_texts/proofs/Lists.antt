-- What holds of each element of a list, and how lists are put together.
use Rattle.std.proofs.Common.{◌≡◌, List, [], ◌∷◌, ◌++◌, refl, ap, sym, subst, ◌∙◌, ⊎_elim}
use Rattle.std.specs.List.{AllByRecursion, Contains}
use Rattle.named_modules.proofs.Lists.{contains_cases, contains_none}

module _ {X : Type 0} where
  pub all_joined : (P : X → Type 0) (xs ys : List X) → AllByRecursion P xs → AllByRecursion P ys → AllByRecursion P (xs ++ ys)
  all_joined P [] ys h k = k
  all_joined P (x ∷ xs) ys h k = (h.0, all_joined P xs ys h.1 k)

  pub all_parted : (P : X → Type 0) (xs ys : List X) → AllByRecursion P (xs ++ ys) → AllByRecursion P xs × AllByRecursion P ys
  all_parted P [] ys h = (tt, h)
  all_parted P (x ∷ xs) ys h = let rest = all_parted P xs ys h.1 in ((h.0, rest.0), rest.1)

  pub all_to : (P : X → Type 0) (xs : List X) → AllByRecursion P xs → (x : X) → Contains xs x → P x
  all_to P [] all x there = absurd (contains_none x there)
  all_to P (y ∷ ys) all x there =
      ⊎_elim (λ e. subst P e all.0) (λ more. all_to P ys all.1 x more) (contains_cases y x ys there)

  pub all_zipped : (P Q T : X → Type 0) → ((x : X) → P x → Q x → T x) → (xs : List X) → AllByRecursion P xs → AllByRecursion Q xs → AllByRecursion T xs
  all_zipped P Q T f [] h k = tt
  all_zipped P Q T f (x ∷ xs) h k = (f x h.0 k.0, all_zipped P Q T f xs h.1 k.1)

  pub all_mapped : (P Q : X → Type 0) → ((x : X) → P x → Q x) → (xs : List X) → AllByRecursion P xs → AllByRecursion Q xs
  all_mapped P Q f [] h = tt
  all_mapped P Q f (x ∷ xs) h = (f x h.0, all_mapped P Q f xs h.1)

  -- without the last
  pub front_same : (xs ys : List X) (a : X) → xs ++ (a ∷ []) ≡ ys ++ (a ∷ []) → xs ≡ ys
  front_same [] [] a e = refl
  front_same [] (y ∷ []) a e = cc
  front_same [] (y ∷ z ∷ ys) a e = cc
  front_same (x ∷ []) [] a e = cc
  front_same (x ∷ z ∷ xs) [] a e = cc
  front_same (x ∷ xs) (y ∷ ys) a e =
      let head : x ≡ y = cc in
      let tail : xs ++ (a ∷ []) ≡ ys ++ (a ∷ []) = cc in
      ap (λ h. h ∷ xs) head ∙ ap (λ l. y ∷ l) (front_same xs ys a tail)

  -- up to the first that isn't so
  pub first_same : (P : X → Type 0) (xs ys more rest : List X) (a : X) → (P a → ⊥) → AllByRecursion P xs → AllByRecursion P ys → xs ++ (a ∷ more) ≡ ys ++ (a ∷ rest) → xs ≡ ys
  first_same P [] [] more rest a not h k e = refl
  first_same P [] (y ∷ ys) more rest a not h k e = let head : y ≡ a = cc in absurd (not (subst P head k.0))
  first_same P (x ∷ xs) [] more rest a not h k e = let head : x ≡ a = cc in absurd (not (subst P head h.0))
  first_same P (x ∷ xs) (y ∷ ys) more rest a not h k e =
      let head : x ≡ y = cc in
      let tail : xs ++ (a ∷ more) ≡ ys ++ (a ∷ rest) = cc in
      ap (λ h. h ∷ xs) head ∙ ap (λ l. y ∷ l) (first_same P xs ys more rest a not h.1 k.1 tail)

  -- behind the last that isn't so
  pub last_same : (P : X → Type 0) (xs ys more rest : List X) (a : X) → (P a → ⊥) → AllByRecursion P more → AllByRecursion P rest → xs ++ (a ∷ more) ≡ ys ++ (a ∷ rest) → more ≡ rest
  last_same P [] [] more rest a not h k e = cc
  last_same P [] (y ∷ ys) more rest a not h k e =
      let tail : more ≡ ys ++ (a ∷ rest) = cc in
      absurd (not (all_parted P ys (a ∷ rest) (subst (AllByRecursion P) tail h)).1.0)
  last_same P (x ∷ xs) [] more rest a not h k e =
      let tail : xs ++ (a ∷ more) ≡ rest = cc in
      absurd (not (all_parted P xs (a ∷ more) (subst (AllByRecursion P) (sym tail) k)).1.0)
  last_same P (x ∷ xs) (y ∷ ys) more rest a not h k e =
      let tail : xs ++ (a ∷ more) ≡ ys ++ (a ∷ rest) = cc in
      last_same P xs ys more rest a not h k tail
