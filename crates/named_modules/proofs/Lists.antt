-- What lists contain, and what is found in them by its name.
use Rattle.std.proofs.Common.{◌≡◌, ◌∙◌, ℕ, suc, zero, ◌<◌, Bool, true, false, cond, List, [], ◌∷◌, ◌++◌, length, get_or, map, Option, Some, None, refl, ap, sym, subst, arith}
use Rattle.std.specs.List.{AllByRecursion, Contains}
use Rattle.std.proofs.Math.Logic.{◌⊎◌, inl, inr, ⊎_elim}
use Rattle.std.proofs.lemmas.List.Elements.{Contains-append_left, Contains-append_right}
use Rattle.ir_core.specs.Order.{AreNew}
use Rattle.ir_types.specs.declared.names.Name.{Name}
use Rattle.ir_types.specs.NameLaws.{same_name_refl, same_name_true}
use Rattle.ir_types.specs.Same.{same_name}

pub contains_here : {A : Type 0} (x : A) (xs : List A) → Contains (x ∷ xs) x
contains_here x xs = (0, omega arith, refl)

pub contains_behind : {A : Type 0} (x y : A) (ys : List A) → Contains ys y → Contains (x ∷ ys) y
contains_behind x y ys there = (suc there.0, omega (arith, there.1), there.2)

-- what a list has is its first or one behind it
pub contains_cases : {A : Type 0} (x y : A) (xs : List A) → Contains (x ∷ xs) y → (x ≡ y) ⊎ Contains xs y
contains_cases x y xs there = at there.0 there.1 there.2
  where
    at : (k : ℕ) → k < length (x ∷ xs) → get_or (x ∷ xs) k y ≡ y → (x ≡ y) ⊎ Contains xs y
    at zero inside e = inl e
    at (suc k) inside e = inr (k, omega (arith, inside), e)

pub contains_none : {A : Type 0} (x : A) → Contains [] x → ⊥
contains_none x there = omega (arith, there.1)

-- what both lists have, one behind the other
pub contains_either : {A : Type 0} (xs ys : List A) (x : A) → Contains (xs ++ ys) x → Contains xs x ⊎ Contains ys x
contains_either [] ys x there = inr there
contains_either (y ∷ xs) ys x there =
    ⊎_elim
    (λ e. inl (subst (Contains (y ∷ xs)) e (contains_here y xs)))
    (λ more. ⊎_elim (λ h. inl (contains_behind y x xs h)) (λ h. inr h) (contains_either xs ys x more))
    (contains_cases y x (xs ++ ys) there)

-- ---- each stands once

abbrev pub AreDistinct : {A : Type 0} → List A → Type 0
AreDistinct [] = Unit {0}
AreDistinct (x ∷ xs) = (Contains xs x → ⊥) × AreDistinct xs

-- what is taken counts by what it contains alone
pub new_over : {A : Type 0} (s t : List A) (xs : List A) → ((x : A) → Contains t x → Contains s x) → AreNew s xs → AreNew t xs
new_over s t [] over new = tt
new_over s t (x ∷ xs) over new =
    (λ there. new.0 (over x there), new_over (s ++ x ∷ []) (t ++ x ∷ []) xs (λ y there. ⊎_elim (λ h. Contains-append_left s (x ∷ []) y (over y h)) (λ h. Contains-append_right s (x ∷ []) y h) (contains_either t (x ∷ []) y there)) new.1)

-- a thing that is taken at the front is taken at the end
pub new_front : {A : Type 0} (x : A) (taken xs : List A) → AreNew (taken ++ x ∷ []) xs → AreNew (x ∷ taken) xs
new_front x taken xs =
    new_over (taken ++ x ∷ []) (x ∷ taken) xs (λ y there. ⊎_elim (λ e. Contains-append_right taken (x ∷ []) y (subst (Contains (x ∷ [])) e (contains_here x []))) (λ h. Contains-append_left taken (x ∷ []) y h) (contains_cases x y taken there))

pub new_end : {A : Type 0} (x : A) (taken xs : List A) → AreNew (x ∷ taken) xs → AreNew (taken ++ x ∷ []) xs
new_end x taken xs =
    new_over (x ∷ taken) (taken ++ x ∷ []) xs (λ y there. ⊎_elim (λ h. contains_behind x y taken h) (λ h. ⊎_elim (λ e. subst (Contains (x ∷ taken)) e (contains_here x taken)) (λ n. absurd (contains_none y n)) (contains_cases x y [] h)) (contains_either taken (x ∷ []) y there))

pub new_apart : {A : Type 0} (taken xs : List A) (x : A) → AreNew taken xs → Contains taken x → Contains xs x → ⊥
new_apart taken [] x new there more = contains_none x more
new_apart taken (y ∷ ys) x new there more =
    ⊎_elim
    (λ e. new.0 (subst (Contains taken) (sym e) there))
    (λ later. new_apart (taken ++ y ∷ []) ys x new.1 (Contains-append_left taken (y ∷ []) x there) later)
    (contains_cases y x ys more)

pub new_distinct : {A : Type 0} (taken xs : List A) → AreNew taken xs → AreDistinct xs
new_distinct taken [] new = tt
new_distinct taken (x ∷ xs) new =
    (λ there. new_apart (taken ++ x ∷ []) xs x new.1 (Contains-append_right taken (x ∷ []) x (contains_here x [])) there, new_distinct (taken ++ x ∷ []) xs new.1)

pub distinct_new : {A : Type 0} (taken xs : List A) → ((x : A) → Contains taken x → Contains xs x → ⊥) → AreDistinct xs → AreNew taken xs
distinct_new taken [] apart distinct = tt
distinct_new taken (x ∷ xs) apart distinct = (
  λ there. apart x there (contains_here x xs),
  distinct_new (taken ++ x ∷ []) xs
      (λ y there more. ⊎_elim (λ h. apart y h (contains_behind x y xs more)) (λ h. ⊎_elim (λ e. distinct.0 (subst (Contains xs) (sym e) more)) (λ n. contains_none y n) (contains_cases x y [] h)) (contains_either taken (x ∷ []) y there))
      distinct.1,
)

-- one in the middle stands apart from those on both sides
pub distinct_between : {A : Type 0} (xs ys : List A) (x : A) → AreDistinct (xs ++ x ∷ ys) → (Contains (xs ++ ys) x → ⊥) × AreDistinct (xs ++ ys)
distinct_between [] ys x distinct = distinct
distinct_between (y ∷ xs) ys x distinct =
    let rest = distinct_between xs ys x distinct.1 in (
      λ there.
          ⊎_elim
          (λ e. distinct.0 (subst (Contains (xs ++ x ∷ ys)) (sym e) (Contains-append_right xs (x ∷ ys) x (contains_here x ys))))
          (λ more. rest.0 more)
          (contains_cases y x (xs ++ ys) there),
      (λ there. distinct.0 (wider xs ys x y there), rest.1),
    )
  where
    wider : {A : Type 0} (xs ys : List A) (x y : A) → Contains (xs ++ ys) y → Contains (xs ++ x ∷ ys) y
    wider xs ys x y there =
        ⊎_elim (λ h. Contains-append_left xs (x ∷ ys) y h) (λ h. Contains-append_right xs (x ∷ ys) y (contains_behind x y ys h)) (contains_either xs ys y there)

pub between_distinct : {A : Type 0} (xs ys : List A) (x : A) → (Contains (xs ++ ys) x → ⊥) → AreDistinct (xs ++ ys) → AreDistinct (xs ++ x ∷ ys)
between_distinct [] ys x apart distinct = (apart, distinct)
between_distinct (y ∷ xs) ys x apart distinct = (
  λ there.
      ⊎_elim
      (λ h. distinct.0 (Contains-append_left xs ys y h))
      (λ h.
      ⊎_elim
      (λ e. apart (subst (Contains (y ∷ (xs ++ ys))) (sym e) (contains_here y (xs ++ ys))))
      (λ more. distinct.0 (Contains-append_right xs ys y more))
      (contains_cases x y ys h))
      (contains_either xs (x ∷ ys) y there),
  between_distinct xs ys x (λ there. apart (contains_behind y x (xs ++ ys) there)) distinct.1,
)

-- ---- the first of a name

abbrev pub look : {A : Type 0} → List (Name × A) → Name → Option A
look [] x = None
look (t ∷ ts) x = cond (same_name t.0 x) (Some t.1) (look ts x)

abbrev pub names_of_pairs : {A : Type 0} → List (Name × A) → List Name
names_of_pairs = map (λ t. t.0)

some_same : {A : Type 0} (a b : A) → Some a ≡ Some b → a ≡ b
some_same a b e = cc

pub look_there : {A : Type 0} (ts : List (Name × A)) (x : Name) (a : A) → look ts x ≡ Some a → Contains ts (x, a)
look_there [] x a e = cc
look_there {A} ((n, b) ∷ ts) x a e = by (same_name n x) refl e (λ h. look_there ts x a h)
  where
    pair : Name → A → Name × A
    pair n a = (n, a)

    by : (same : Bool) → same_name n x ≡ same → cond same (Some b) (look ts x) ≡ Some a → (look ts x ≡ Some a → Contains ts (x, a)) → Contains ((n, b) ∷ ts) (x, a)
    by true is e more = subst (Contains ((n, b) ∷ ts)) (ap (λ y. pair y b) (same_name_true n x is) ∙ ap (pair x) (some_same b a e)) (contains_here (n, b) ts)
    by false is e more = contains_behind (n, b) (x, a) ts (more e)

pub pair_named : {A : Type 0} (ts : List (Name × A)) (t : Name × A) → Contains ts t → Contains (names_of_pairs ts) t.0
pair_named [] t there = absurd (contains_none t there)
pair_named (u ∷ ts) t there =
    ⊎_elim
    (λ e. subst (λ v. Contains (u.0 ∷ names_of_pairs ts) v.0) e (contains_here u.0 (names_of_pairs ts)))
    (λ more. contains_behind u.0 t.0 (names_of_pairs ts) (pair_named ts t more))
    (contains_cases u t ts there)

-- where no name stands twice, each is found
pub look_finds : {A : Type 0} (ts : List (Name × A)) (x : Name) (a : A) → AreDistinct (names_of_pairs ts) → Contains ts (x, a) → look ts x ≡ Some a
look_finds [] x a distinct there = absurd (contains_none (x, a) there)
look_finds {A} ((n, b) ∷ ts) x a distinct there = by (same_name n x) refl (contains_cases (n, b) (x, a) ts there) (λ h. look_finds ts x a distinct.1 h)
  where
    by : (same : Bool) → same_name n x ≡ same → (◌≡◌ {A = Name × A} (n, b) (x, a)) ⊎ Contains ts (x, a) → (Contains ts (x, a) → look ts x ≡ Some a) → cond same (Some b) (look ts x) ≡ Some a
    by true is cases later =
        ⊎_elim
        (λ e. ap (λ (t : Name × A). Some t.1) e)
        (λ more. absurd (distinct.0 (subst (Contains (names_of_pairs ts)) (sym (same_name_true n x is)) (pair_named ts (x, a) more))))
        cases
    by false is cases later =
        ⊎_elim
        (λ e.
        let yes : same_name n x ≡ true = ap (λ (t : Name × A). same_name t.0 x) e ∙ same_name_refl x in
        let no : false ≡ true = sym is ∙ yes in cc)
        (λ more. later more)
        cases

-- ---- what holds of each

pub all_append : {A : Type 0} (P : A → Type 0) (xs ys : List A) → AllByRecursion P xs → AllByRecursion P ys → AllByRecursion P (xs ++ ys)
all_append P [] ys front more = more
all_append P (x ∷ xs) ys front more = (front.0, all_append P xs ys front.1 more)

pub all_left : {A : Type 0} (P : A → Type 0) (xs ys : List A) → AllByRecursion P (xs ++ ys) → AllByRecursion P xs
all_left P [] ys all = tt
all_left P (x ∷ xs) ys all = (all.0, all_left P xs ys all.1)

pub all_right : {A : Type 0} (P : A → Type 0) (xs ys : List A) → AllByRecursion P (xs ++ ys) → AllByRecursion P ys
all_right P [] ys all = all
all_right P (x ∷ xs) ys all = all_right P xs ys all.1
