-- What is so or isn't.
use Rattle.std.proofs.Common.{◌≡◌, ℕ, Bool, true, false, nat_eq, List, [], ◌∷◌, ◌++◌, ◌⊎◌, inl, inr, refl, ap, sym, subst}
use Rattle.std.proofs.lemmas.Bool.{eqb-false, eqb-true}
use Rattle.std.specs.List.{Contains}
use Rattle.named_modules.proofs.Lists.{contains_behind, contains_cases, contains_here, contains_none}

abbrev pub Decided : Type 0 → Type 0
Decided A = A ⊎ (A → ⊥)

pub same_number : (a b : ℕ) → Decided (a ≡ b)
same_number a b = by (nat_eq a b) refl
  where
    by : (same : Bool) → nat_eq a b ≡ same → Decided (a ≡ b)
    by true e = inl (eqb-true a b e)
    by false e = inr (eqb-false a b e)

-- a list has a number or hasn't
pub has_or_not : (ks : List ℕ) (k : ℕ) → Decided (Contains ks k)
has_or_not [] k = inr (contains_none k)
has_or_not (j ∷ ks) k = by (same_number j k) (has_or_not ks k)
  where
    by : Decided (j ≡ k) → Decided (Contains ks k) → Decided (Contains (j ∷ ks) k)
    by (inl same) rest = inl (subst (Contains (j ∷ ks)) same (contains_here j ks))
    by (inr other) (inl later) = inl (contains_behind j k ks later)
    by (inr other) (inr none) = inr (λ has. of (contains_cases j k ks has))
      where
        of : (j ≡ k) ⊎ Contains ks k → ⊥
        of (inl same) = other same
        of (inr later) = none later

-- ---- a list in two parts

module _ {X : Type 0} where
  -- of the ways to part a list in two one is so
  pub record Parted (P : List X → List X → Type 0) (xs : List X) : Type 0 where
    pub front : List X
    pub back : List X
    pub same : xs ≡ front ++ back
    pub is : P front back

  here : (P : List X → List X → Type 0) (xs : List X) → P [] xs → Parted P xs
  here P xs is = record { front = []; back = xs; same = refl; is = is }

  behind : (P : List X → List X → Type 0) (x : X) (xs : List X) → Parted (λ a b. P (x ∷ a) b) xs → Parted P (x ∷ xs)
  behind P x xs p = record { front = x ∷ p.front; back = p.back; same = ap (λ l. x ∷ l) p.same; is = p.is }

  not_empty : (P : List X → List X → Type 0) → (P [] [] → ⊥) → Parted P [] → ⊥
  not_empty P none p = go p.front p.back p.same p.is
    where
      go : (a b : List X) → [] ≡ a ++ b → P a b → ⊥
      go [] [] e is = none is
      go [] (y ∷ b) e is = cc
      go (y ∷ a) b e is = cc

  not_any :
      (P : List X → List X → Type 0) (x : X) (xs : List X) → (P [] (x ∷ xs) → ⊥) → (Parted (λ a b. P (x ∷ a) b) xs → ⊥) → Parted P (x ∷ xs) → ⊥
  not_any P x xs first later p = go p.front p.back p.same p.is
    where
      go : (a b : List X) → x ∷ xs ≡ a ++ b → P a b → ⊥
      go [] b e is = first (subst (P []) (sym e) is)
      go (y ∷ a) b e is =
          let head : y ≡ x = cc in
          let tail : xs ≡ a ++ b = cc in
          later (record { front = a; back = b; same = tail; is = subst (λ h. P (h ∷ a) b) head is })

  pub parted_or_not : (P : List X → List X → Type 0) → ((a b : List X) → Decided (P a b)) → (xs : List X) → Decided (Parted P xs)
  parted_or_not P each [] = by (each [] [])
    where
      by : Decided (P [] []) → Decided (Parted P [])
      by (inl is) = inl (here P [] is)
      by (inr none) = inr (not_empty P none)
  parted_or_not P each (x ∷ xs) = by (each [] (x ∷ xs)) (parted_or_not (λ a b. P (x ∷ a) b) (λ a b. each (x ∷ a) b) xs)
    where
      by : Decided (P [] (x ∷ xs)) → Decided (Parted (λ a b. P (x ∷ a) b) xs) → Decided (Parted P (x ∷ xs))
      by (inl is) rest = inl (here P (x ∷ xs) is)
      by (inr first) (inl later) = inl (behind P x xs later)
      by (inr first) (inr later) = inr (not_any P x xs first later)
