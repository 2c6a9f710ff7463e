-- Names found one after the other, and what showing leaves.
use Rattle.std.proofs.Common.{◌≡◌, ◌∙◌, ℕ, suc, Bool, true, false, ◌||◌, not, cond, nat_eq, nat_lt, [], ◌∷◌, ◌++◌, length, take, Option, None, Some, Result, Ok, Err, refl, sym, ap, subst, eq-eqb, eqb-true}
use Rattle.std.specs.Prelude.{ℤ, ◌↔◌, IfOk, OnErr}
use Rattle.std.specs.List.{list_any}
use Rattle.std.specs.Option.{option_map}
use Rattle.ir_types.specs.NameLaws.{right_true}
use Rattle.ir_core.specs.Types.{fits}
use Rattle.ir_core.specs.declared.values.Value.{Value}
use Rattle.ir_core.specs.declared.values.Value.TheVariants as value
use Rattle.ir_core.specs.declared.values.Kind.{Kind}
use Rattle.ir_core.specs.declared.values.Kind.TheVariants as kind
use Rattle.block_memory.specs.declared.items.Choice.{Choice}
use Rattle.block_memory.specs.declared.items.Choice.TheVariants as choice
use Rattle.block_memory.specs.declared.items.Shown.{Shown}
use Rattle.block_memory.specs.declared.items.Shown.TheVariants as shown
use Rattle.block_memory.specs.declared.names.ShowEnd.{ShowEnd}
use Rattle.block_memory.specs.declared.names.ShowEnd.TheVariants as end
use Rattle.block_memory.specs.Memory.{Memory}
use Rattle.block_memory.specs.NameLaws.{AreApart, IsFree, NamesStayApart, PointersAreShownAgain}
use Rattle.block_memory.specs.Names.{Chooses, IsShown, Names, Showing, chosen, chosen_maybe, fresh, is_bound_to, is_unnamed, name_of, picked, shown_of, under_name, under_next}

-- ---- one name a block

no_name_is_free : (names : Names) (b : ℕ) → name_of names b ≡ None → list_any (is_bound_to b) names ≡ false
no_name_is_free [] b h = refl
no_name_is_free (x ∷ names) b h = at (λ e. no_name_is_free names b e) (is_bound_to b x) refl h
  where
    none : (o : Option ℕ) → option_map suc o ≡ None → o ≡ None
    none None e = refl
    none (Some k) e = cc

    at : (name_of names b ≡ None → list_any (is_bound_to b) names ≡ false) → (t : Bool) → is_bound_to b x ≡ t → cond t (Some 0) (option_map suc (name_of names b)) ≡ None
        → (is_bound_to b x || list_any (is_bound_to b) names) ≡ false
    at rest true e h = cc
    at rest false e h = ap (λ t. t || list_any (is_bound_to b) names) e ∙ rest (none (name_of names b) h)

any_behind : (names : Names) (y : Option ℕ) (c : ℕ) → is_bound_to c y ≡ false → list_any (is_bound_to c) names ≡ false → list_any (is_bound_to c) (names ++ (y ∷ [])) ≡ false
any_behind [] y c p q = ap (λ t. t || false) p
any_behind (x ∷ names) y c p q = at (λ r. any_behind names y c p r) (is_bound_to c x) refl q
  where
    at : (list_any (is_bound_to c) names ≡ false → list_any (is_bound_to c) (names ++ (y ∷ [])) ≡ false) → (t : Bool) → is_bound_to c x ≡ t
        → (t || list_any (is_bound_to c) names) ≡ false → (is_bound_to c x || list_any (is_bound_to c) (names ++ (y ∷ []))) ≡ false
    at rest true e q = cc
    at rest false e q = ap (λ t. t || list_any (is_bound_to c) (names ++ (y ∷ []))) e ∙ rest q

-- a block that has no name is none of those that have one
other_block : (x y : Option ℕ) (names : Names) → IsFree x names → IsFree y (x ∷ names) → IsFree x (names ++ (y ∷ []))
other_block None y names p q = tt
other_block (Some c) None names p q = any_behind names None c refl p
other_block (Some c) (Some b) names p q = any_behind names (Some b) c (turned (nat_eq c b) refl q) p
  where
    turned : (t : Bool) → nat_eq c b ≡ t → (t || list_any (is_bound_to b) names) ≡ false → nat_eq b c ≡ false
    turned true e q = cc
    turned false e q = differ (nat_eq b c) refl
      where
        differ : (u : Bool) → nat_eq b c ≡ u → u ≡ false
        differ true f = let same : b ≡ c = eqb-true b c f in let g : nat_eq c b ≡ true = eq-eqb c b (sym same) in cc
        differ false f = refl

free_behind : (x y : Option ℕ) (names : Names) → IsFree y (x ∷ names) → IsFree y names
free_behind x None names h = tt
free_behind x (Some b) names h = at (is_bound_to b x) h
  where
    at : (t : Bool) → (t || list_any (is_bound_to b) names) ≡ false → list_any (is_bound_to b) names ≡ false
    at true h = cc
    at false h = h

apart_behind : (names : Names) (y : Option ℕ) → IsFree y names → AreApart names → AreApart (names ++ (y ∷ []))
apart_behind [] None h apart = (tt, tt)
apart_behind [] (Some b) h apart = (refl, tt)
apart_behind (x ∷ names) y h apart = (other_block x y names apart.0 h, apart_behind names y (free_behind x y names h) apart.1)

-- the names that showing leaves
abbrev LeavesApart : Names → Option Showing → Type 0
LeavesApart names None = Unit {0}
LeavesApart names (Some showing) = AreApart names → AreApart showing.1

module _ (m : Memory) (names : Names) where
  next_leaves : (bound : Option ℕ) (o : ℤ) → IsFree bound names → LeavesApart names (Some (under_next names bound o))
  next_leaves bound o h = apart_behind names bound h

  unnamed_is_free : (b : ℕ) → is_unnamed m names b ≡ true → list_any (is_bound_to b) names ≡ false
  unnamed_is_free b h = at (list_any (is_bound_to b) names) (right_true (nat_lt b (length m)) (not (list_any (is_bound_to b) names)) h)
    where
      at : (t : Bool) → not t ≡ true → t ≡ false
      at true e = cc
      at false e = refl

  fresh_leaves : (k : Kind) (bound : Option ℕ) (o : ℤ) → LeavesApart names (fresh k m names bound o)
  fresh_leaves (kind.Int width) bound o = tt
  fresh_leaves kind.Ptr None o = next_leaves None o tt
  fresh_leaves kind.Ptr (Some b) o = at (is_unnamed m names b) refl
    where
      at : (t : Bool) → is_unnamed m names b ≡ t → LeavesApart names (cond t (Some (under_next names (Some b) o)) None)
      at true e = next_leaves (Some b) o (unnamed_is_free b e)
      at false e = tt

  cond_leaves : (t : Bool) (s : Shown) → LeavesApart names (cond t (Some (s, names)) None)
  cond_leaves true s = λ h. h
  cond_leaves false s = tt

  picked_leaves : (k : Kind) (s : Shown) → LeavesApart names (picked k names s)
  picked_leaves (kind.Int width) (shown.Num n) = cond_leaves (fits n width) (shown.Num n)
  picked_leaves (kind.Int width) (shown.Name x o) = tt
  picked_leaves (kind.Int width) (shown.Bare a) = tt
  picked_leaves kind.Ptr (shown.Num n) = tt
  picked_leaves kind.Ptr (shown.Name x o) = cond_leaves (nat_lt x (length names)) (shown.Name x o)
  picked_leaves kind.Ptr (shown.Bare a) = λ h. h

  chosen_leaves : (k : Kind) (c : Choice) → LeavesApart names (chosen k m names c)
  chosen_leaves k (choice.Pick s) = picked_leaves k s
  chosen_leaves k (choice.Fresh bound o) = fresh_leaves k bound o
  chosen_leaves k (choice.Go x) = tt
  chosen_leaves k (choice.PickByte s) = tt
  chosen_leaves k (choice.Read x o) = tt
  chosen_leaves k (choice.Write x o s) = tt
  chosen_leaves k (choice.New align bytes) = tt
  chosen_leaves k (choice.Reply s) = tt
  chosen_leaves k choice.Wrong = tt

  name_leaves : (b : ℕ) (o : ℤ) → LeavesApart names (shown_of names (value.Ptr b o))
  name_leaves b o = at (name_of names b) refl
    where
      at : (x : Option ℕ) → name_of names b ≡ x → LeavesApart names (Some (under_name names b o x))
      at None e = next_leaves (Some b) o (no_name_is_free names b e)
      at (Some x) e = λ h. h

  leaves : (o : Option Showing) (s : Shown) (after : Names) → LeavesApart names o → o ≡ Some (s, after) → AreApart names → AreApart after
  leaves o s after h e = subst (LeavesApart names) e h

pub names_stay_apart : NamesStayApart
names_stay_apart value.Undef k m names after s is apart = leaves m names (chosen k m names is.0) s after (chosen_leaves m names k is.0) is.1 apart
names_stay_apart value.Poison k m names after s is apart = absurd is
names_stay_apart (value.Num n) k m names after s is apart = leaves m names (Some (shown.Num n, names)) s after (λ h. h) is apart
names_stay_apart (value.Bare a) k m names after s is apart = leaves m names (Some (shown.Bare a, names)) s after (λ h. h) is apart
names_stay_apart (value.Ptr b o) k m names after s is apart = leaves m names (shown_of names (value.Ptr b o)) s after (name_leaves m names b o) is apart

-- ---- shown again

name_behind : (names : Names) (b : ℕ) → name_of names b ≡ None → name_of (names ++ (Some b ∷ [])) b ≡ Some (length names)
name_behind [] b h = ap (λ t. cond t (Some 0) None) (eq-eqb b b refl)
name_behind (x ∷ names) b h = at (λ e. name_behind names b e) (is_bound_to b x) refl h
  where
    none : (o : Option ℕ) → option_map suc o ≡ None → o ≡ None
    none None e = refl
    none (Some k) e = cc

    at : (name_of names b ≡ None → name_of (names ++ (Some b ∷ [])) b ≡ Some (length names)) → (t : Bool) → is_bound_to b x ≡ t
        → cond t (Some 0) (option_map suc (name_of names b)) ≡ None → cond (is_bound_to b x) (Some 0) (option_map suc (name_of (names ++ (Some b ∷ [])) b)) ≡ Some (suc (length names))
    at rest true e h = cc
    at rest false e h = ap (λ t. cond t (Some 0) (option_map suc (name_of (names ++ (Some b ∷ [])) b))) e ∙ ap (option_map suc) (rest (none (name_of names b) h))

abbrev shown_in : Shown → Option Showing → Shown
shown_in s None = s
shown_in s (Some showing) = showing.0

abbrev names_in : Names → Option Showing → Names
names_in names None = names
names_in names (Some showing) = showing.1

pub pointers_are_shown_again : PointersAreShownAgain
pointers_are_shown_again names after b o s h = at (name_of names b) refl h
  where
    at : (x : Option ℕ) → name_of names b ≡ x → Some (under_name names b o x) ≡ Some (s, after)
        → (x : ℕ) × (s ≡ shown.Name x o) × ((p : ℤ) → shown_of after (value.Ptr b p) ≡ Some (shown.Name x p, after))
    at None e h =
        let same : names ++ (Some b ∷ []) ≡ after = ap (names_in after) h in (
          length names,
          sym (ap (shown_in s) h),
          λ p. subst (λ (ns : Names). shown_of ns (value.Ptr b p) ≡ Some (shown.Name (length names) p, ns)) same
              (ap (λ x. Some (under_name (names ++ (Some b ∷ [])) b p x)) (name_behind names b e)),
        )
    at (Some x) e h =
        let same : names ≡ after = ap (names_in after) h in (
          x,
          sym (ap (shown_in s) h),
          λ p. subst (λ (ns : Names). shown_of ns (value.Ptr b p) ≡ Some (shown.Name x p, ns)) same (ap (λ y. Some (under_name names b p y)) e),
        )

-- ---- what showing answers

pub shown_named : (names : Names) (b x : ℕ) (o : ℤ) → name_of names b ≡ Some x → shown_of names (value.Ptr b o) ≡ Some (shown.Name x o, names)
shown_named names b x o e = ap (λ n. Some (under_name names b o n)) e

pub shown_next : (names after : Names) (b : ℕ) (o : ℤ) (s : Shown) → name_of names b ≡ None → under_next names (Some b) o ≡ (s, after) → shown_of names (value.Ptr b o) ≡ Some (s, after)
shown_next names after b o s e next = ap (λ n. Some (under_name names b o n)) e ∙ ap Some next

module _ (v : Value) (k : Kind) (m : Memory) (names after : Names) (undef : v ≡ value.Undef) where
  chosen_shown : (c : Choice) (x : Option Showing) (r : Result Shown ShowEnd) → chosen k m names c ≡ x → Chooses names x r after → IfOk r (λ s. IsShown value.Undef k m names s after)
  chosen_shown c None (Ok s) is h = let no : Ok s ≡ Err end.NoChoice = h.0 in cc
  chosen_shown c None (Err e) is h = tt
  chosen_shown c (Some showing) (Ok s) is h = (c, is ∙ ap Some h)
  chosen_shown c (Some showing) (Err e) is h = tt

  nothing_shown : (r : Result Shown ShowEnd) → Chooses names None r after → IfOk r (λ s. IsShown value.Undef k m names s after)
  nothing_shown (Ok s) h = let no : Ok s ≡ Err end.NoChoice = h.0 in cc
  nothing_shown (Err e) h = tt

  pub chosen_ok : (o : Option Choice) (r : Result Shown ShowEnd) → Chooses names (chosen_maybe k m names o) r after → IfOk r (λ s. IsShown v k m names s after)
  chosen_ok None r h = subst (λ w. IfOk r (λ s. IsShown w k m names s after)) (sym undef) (nothing_shown r h)
  chosen_ok (Some c) r h = subst (λ w. IfOk r (λ s. IsShown w k m names s after)) (sym undef) (chosen_shown c (chosen k m names c) r refl h)

  not_wrong : (x : Option Showing) (r : Result Shown ShowEnd) → Chooses names x r after → r ≡ Err end.Wrong → ⊥
  not_wrong None r h e = let is : r ≡ Err end.NoChoice = h.0 in cc
  not_wrong (Some showing) (Ok s) h e = cc
  not_wrong (Some showing) (Err f) h e = let is : f ≡ end.Memory = h.0 in cc

  pub chosen_wrong : (o : Option Choice) (r : Result Shown ShowEnd) → Chooses names (chosen_maybe k m names o) r after → (r ≡ Err end.Wrong) ↔ (v ≡ value.Poison)
  chosen_wrong o r h = (λ e. absurd (not_wrong (chosen_maybe k m names o) r h e), λ e. cc)

  lacks : (x : Option Showing) (r : Result Shown ShowEnd) → Chooses names x r after → (r ≡ Err end.NoChoice) ↔ (x ≡ None)
  lacks None r h = (λ e. refl, λ e. h.0)
  lacks (Some showing) (Ok s) h = (λ e. cc, λ e. cc)
  lacks (Some showing) (Err f) h = (λ e. let is : f ≡ end.Memory = h.0 in cc, λ e. cc)

  pub chosen_lacks : (o : Option Choice) (r : Result Shown ShowEnd) → Chooses names (chosen_maybe k m names o) r after
      → (r ≡ Err end.NoChoice) ↔ ((v ≡ value.Undef) × (chosen_maybe k m names o ≡ None))
  chosen_lacks o r h = let both = lacks (chosen_maybe k m names o) r h in (λ e. (undef, both.0 e), λ e. both.1 e.1)

  pub chosen_err : (x : Option Showing) (r : Result Shown ShowEnd) → Chooses names x r after → OnErr r (after ≡ names)
  chosen_err None (Ok s) h = tt
  chosen_err None (Err e) h = h.1
  chosen_err (Some showing) (Ok s) h = tt
  chosen_err (Some showing) (Err e) h = h.1

-- ---- the names before stay

pub taken_before : (names : Names) (y : Option ℕ) → take (length names) (names ++ (y ∷ [])) ≡ names
taken_before [] y = refl
taken_before (x ∷ names) y = ap (λ xs. x ∷ xs) (taken_before names y)

pub taken_all : (names : Names) → take (length names) names ≡ names
taken_all [] = refl
taken_all (x ∷ names) = ap (λ xs. x ∷ xs) (taken_all names)

module _ (names : Names) where
  abbrev Keeps : Option Showing → Type 0
  Keeps None = Unit {0}
  Keeps (Some showing) = take (length names) showing.1 ≡ names

  pub next_keeps : (bound : Option ℕ) (o : ℤ) (s : Shown) (after : Names) → under_next names bound o ≡ (s, after) → take (length names) after ≡ names
  next_keeps bound o s after e = ap (λ (p : Showing). take (length names) p.1) (sym e) ∙ taken_before names bound

  cond_keeps : (t : Bool) (s : Shown) → Keeps (cond t (Some (s, names)) None)
  cond_keeps true s = taken_all names
  cond_keeps false s = tt

  picked_keeps : (k : Kind) (s : Shown) → Keeps (picked k names s)
  picked_keeps (kind.Int width) (shown.Num n) = cond_keeps (fits n width) (shown.Num n)
  picked_keeps (kind.Int width) (shown.Name x o) = tt
  picked_keeps (kind.Int width) (shown.Bare a) = tt
  picked_keeps kind.Ptr (shown.Num n) = tt
  picked_keeps kind.Ptr (shown.Name x o) = cond_keeps (nat_lt x (length names)) (shown.Name x o)
  picked_keeps kind.Ptr (shown.Bare a) = taken_all names

  fresh_keeps : (k : Kind) (m : Memory) (bound : Option ℕ) (o : ℤ) → Keeps (fresh k m names bound o)
  fresh_keeps (kind.Int width) m bound o = tt
  fresh_keeps kind.Ptr m None o = taken_before names None
  fresh_keeps kind.Ptr m (Some b) o = at (is_unnamed m names b)
    where
      at : (t : Bool) → Keeps (cond t (Some (under_next names (Some b) o)) None)
      at true = taken_before names (Some b)
      at false = tt

  choice_keeps : (k : Kind) (m : Memory) (c : Choice) → Keeps (chosen k m names c)
  choice_keeps k m (choice.Pick s) = picked_keeps k s
  choice_keeps k m (choice.Fresh bound o) = fresh_keeps k m bound o
  choice_keeps k m (choice.Go x) = tt
  choice_keeps k m (choice.PickByte s) = tt
  choice_keeps k m (choice.Read x o) = tt
  choice_keeps k m (choice.Write x o s) = tt
  choice_keeps k m (choice.New align bytes) = tt
  choice_keeps k m (choice.Reply s) = tt
  choice_keeps k m choice.Wrong = tt

  pub chosen_keeps : (k : Kind) (m : Memory) (o : Option Choice) (r : Result Shown ShowEnd) (after : Names) → Chooses names (chosen_maybe k m names o) r after
      → take (length names) after ≡ names
  chosen_keeps k m None r after h = ap (take (length names)) h.1 ∙ taken_all names
  chosen_keeps k m (Some c) r after h = by (chosen k m names c) r (choice_keeps k m c) h
    where
      by : (x : Option Showing) (r : Result Shown ShowEnd) → Keeps x → Chooses names x r after → take (length names) after ≡ names
      by None r keeps h = ap (take (length names)) h.1 ∙ taken_all names
      by (Some showing) (Ok s) keeps h = ap (λ (p : Showing). take (length names) p.1) (sym h) ∙ keeps
      by (Some showing) (Err e) keeps h = ap (take (length names)) h.1 ∙ taken_all names
