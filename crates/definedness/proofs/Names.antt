-- Lists of names: which are known, which stand apart, and their places.
use Rattle.std.proofs.Common.{◌≡◌, ◌∙◌, ◌⊎◌, ⊎_elim, inl, inr, ℕ, suc, zero, ◌<◌, true, false, List, [], ◌∷◌, ◌++◌, length, get_or, Option, None, Some, refl, sym, ap, subst, append_assoc, arith, if◌then◌else◌}
use Rattle.std.proofs.lemmas.Bool.{cases_lt}
use Rattle.std.proofs.lemmas.List.{append-nil}
use Rattle.std.proofs.lemmas.List.Elements.{Contains-append_left, Contains-push, Contains-push_cases}
use Rattle.std.specs.List.{Contains}
use Rattle.ir_types.specs.declared.names.Name.{Name}
use Rattle.ir_core.specs.Order.{AreNew}
use Rattle.ir_core.specs.NameIndexes.Among.{is_among, place_among}
use Rattle.ir_core.proofs.NameIndexes.Among.{among_is, not_there}
use Rattle.ir_core.proofs.NameIndexes.FirstPlaces.{no_place, place_is}
use Rattle.definedness.specs.Along.{with_name, with_names}

-- ---- names that are known, and names that are defined

-- a list has the same names as another
abbrev pub SameNames : List Name → List Name → Type 0
SameNames known ds = (n : Name) → (Contains known n → Contains ds n) × (Contains ds n → Contains known n)

pub known_more : (m : Name) (known ds : List Name) → SameNames known ds → SameNames (with_name known m) (ds ++ m ∷ [])
known_more m known ds same n =
    (elim (is_among m known) as (λ b. is_among m known ≡ b
    → (Contains (if b then known else (known ++ m ∷ [])) n → Contains (ds ++ m ∷ []) n) × (Contains (ds ++ m ∷ []) n → Contains (if b then known else (known ++ m ∷ [])) n)) [
      | true ↦ λ e. (
        λ there. Contains-append_left ds (m ∷ []) n ((same n).0 there),
        λ there. ⊎_elim (λ old. (same n).1 old) (λ new. subst (Contains known) new (among_is m known e)) (Contains-push_cases ds m n there),
      )
      | false ↦ λ e. (
        λ there. ⊎_elim (λ old. Contains-append_left ds (m ∷ []) n ((same n).0 old)) (λ new. subst (Contains (ds ++ m ∷ [])) new (Contains-push ds m)) (Contains-push_cases known m n there),
        λ there. ⊎_elim (λ old. Contains-append_left known (m ∷ []) n ((same n).1 old)) (λ new. subst (Contains (known ++ m ∷ [])) new (Contains-push known m)) (Contains-push_cases ds m n there),
      )
    ]) refl

pub all_known : (ns known ds : List Name) → SameNames known ds → SameNames (with_names known ns) (ds ++ ns)
all_known [] known ds same = subst (SameNames known) (sym (append-nil ds)) same
all_known (m ∷ ns) known ds same =
    subst (SameNames (with_names known (m ∷ ns))) (append_assoc ds (m ∷ []) ns) (all_known ns (with_name known m) (ds ++ m ∷ []) (known_more m known ds same))

pub none_known : SameNames [] []
none_known n = (λ there. there, λ there. there)

-- it is among them or not
pub known_or : (n : Name) (ns : List Name) → Contains ns n ⊎ (Contains ns n → ⊥)
known_or n ns =
    (elim (is_among n ns) as (λ b. is_among n ns ≡ b → Contains ns n ⊎ (Contains ns n → ⊥)) [
      | true ↦ λ e. inl (among_is n ns e)
      | false ↦ λ e. inr (not_there n ns e)
    ]) refl

-- ---- names that stand apart

new_not_taken : (xs taken : List Name) → AreNew taken xs → (x : Name) → Contains taken x → (n : ℕ) → n < length xs → get_or xs n x ≡ x → ⊥
new_not_taken [] taken new x there n within is = absurd (omega arith)
new_not_taken (y ∷ xs) taken new x there zero within is = new.0 (subst (Contains taken) (sym is) there)
new_not_taken (y ∷ xs) taken new x there (suc n) within is =
    new_not_taken xs (taken ++ y ∷ []) new.1 x (Contains-append_left taken (y ∷ []) x there) n (omega arith) is

new_apart : (xs taken : List Name) → AreNew taken xs → (x : Name) (m n : ℕ) → m < n → n < length xs → get_or xs m x ≡ x → get_or xs n x ≡ x → ⊥
new_apart [] taken new x m n less within this that = absurd (omega arith)
new_apart (y ∷ xs) taken new x zero (suc n) less within this that =
    new_not_taken xs (taken ++ y ∷ []) new.1 x (subst (Contains (taken ++ y ∷ [])) this (Contains-push taken y)) n (omega arith) that
new_apart (y ∷ xs) taken new x zero zero less within this that = absurd (omega arith)
new_apart (y ∷ xs) taken new x (suc m) zero less within this that = absurd (omega arith)
new_apart (y ∷ xs) taken new x (suc m) (suc n) less within this that = new_apart xs (taken ++ y ∷ []) new.1 x m n (omega arith) (omega arith) this that

pub one_place : (xs : List Name) → AreNew [] xs → (x : Name) (m n : ℕ) → m < length xs → n < length xs → get_or xs m x ≡ x → get_or xs n x ≡ x → m ≡ n
one_place xs new x m n in_m in_n this that =
    ⊎_elim (λ less. absurd (new_apart xs [] new x m n less in_n this that))
    (λ ge. ⊎_elim (λ less. absurd (new_apart xs [] new x n m less in_m that this)) (λ le. omega arith) (cases_lt n m)) (cases_lt m n)

-- ---- places

pub place_at : (xs : List Name) → AreNew [] xs → (x : Name) (n : ℕ) → n < length xs → get_or xs n x ≡ x → place_among x xs ≡ Some n
place_at xs new x n within is = go (place_among x xs) refl
  where
    go : (o : Option ℕ) → place_among x xs ≡ o → place_among x xs ≡ Some n
    go None e = absurd (no_place x xs e (n, within, is))
    go (Some m) e = let there = place_is x xs m e in e ∙ ap (λ k. Some k) (one_place xs new x m n there.0 within there.1 is)
