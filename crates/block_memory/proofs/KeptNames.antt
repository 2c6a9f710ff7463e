-- First names stay those that are kept, as names come and go.
use Rattle.std.proofs.Common.{◌≡◌, ◌∙◌, ℕ, ◌<◌, ◌≤◌, ◌+◌, ◌-◌, suc, Bool, true, false, ◌||◌, cond, nat_eq, nat_lt, List, [], ◌∷◌, ◌++◌, length, Option, None, Some, is_some, refl, sym, ap, eq-eqb, eqb-true, arith}
use Rattle.std.specs.List.{list_any}
use Rattle.std.specs.Map.{lookup}
use Rattle.std.specs.Option.{option_eq, option_map}
use Rattle.std.proofs.lemmas.Bool.{lt-ltb}
use Rattle.std.proofs.lemmas.List.Sums.{count_by-le-length, sum_by-cons, sum_by_push}
use Rattle.block_memory.specs.FirstNames.{AreFirst, is_loose, loose_count}
use Rattle.block_memory.specs.Names.{Names, is_bound_to, name_of}

abbrev or_last : Option ℕ → Bool → ℕ → Option ℕ
or_last (Some k) t n = Some k
or_last None t n = cond t (Some n) None

name_of_more : (names : Names) (y : Option ℕ) (b : ℕ) → name_of (names ++ y ∷ []) b ≡ or_last (name_of names b) (is_bound_to b y) (length names)
name_of_more [] y b = refl
name_of_more (x ∷ names) y b =
    ap (λ o. cond (is_bound_to b x) (Some 0) (option_map suc o)) (name_of_more names y b) ∙ at (is_bound_to b x) (name_of names b) (is_bound_to b y) (length names)
  where
    at : (t : Bool) (o : Option ℕ) (u : Bool) (n : ℕ) → cond t (Some 0) (option_map suc (or_last o u n)) ≡ or_last (cond t (Some 0) (option_map suc o)) u (suc n)
    at true o u n = refl
    at false None true n = refl
    at false None false n = refl
    at false (Some k) u n = refl

name_of_below : (names : Names) (b k : ℕ) → name_of names b ≡ Some k → k < length names
name_of_below [] b k h = cc
name_of_below (x ∷ names) b k h = at (is_bound_to b x) (name_of names b) (name_of_below names b) h
  where
    at : (t : Bool) (o : Option ℕ) → ((j : ℕ) → o ≡ Some j → j < length names) → cond t (Some 0) (option_map suc o) ≡ Some k → k < suc (length names)
    at true o rest e = let z : k ≡ 0 = cc in omega arith
    at false None rest e = cc
    at false (Some j) rest e = let s : k ≡ suc j = cc in let r = rest j refl in omega arith

not_last : (o : Option ℕ) (n : ℕ) → or_last o false n ≡ o
not_last None n = refl
not_last (Some k) n = refl

module _ (names : Names) (kept : List (ℕ × ℕ)) (are : AreFirst names kept) where
  -- the name that comes is bound to nothing, or to a block that has one
  pub kept_behind : (y : Option ℕ) → ((b : ℕ) → is_bound_to b y ≡ true → is_some (lookup (nat_eq b) kept) ≡ true) → AreFirst (names ++ y ∷ []) kept
  kept_behind y known b = are b ∙ at (name_of names b) (is_bound_to b y) refl refl ∙ sym (name_of_more names y b)
    where
      at : (o : Option ℕ) (t : Bool) → name_of names b ≡ o → is_bound_to b y ≡ t → o ≡ or_last o t (length names)
      at o false e f = sym (not_last o (length names))
      at (Some k) true e f = refl
      at None true e f = let some = known b f in let none : lookup (nat_eq b) kept ≡ None = are b ∙ e in cc

  pub none_behind : AreFirst (names ++ None ∷ []) kept
  none_behind = kept_behind None (λ b e. cc)

  pub known_behind : (c : ℕ) → is_some (lookup (nat_eq c) kept) ≡ true → AreFirst (names ++ Some c ∷ []) kept
  known_behind c h = kept_behind (Some c) (λ b e. ap (λ d. is_some (lookup (nat_eq d) kept)) (sym (eqb-true c b e)) ∙ h)

  -- or to a block that has none, and is kept from now on
  pub new_behind : (new : List (ℕ × ℕ)) (c n : ℕ) → is_some (lookup (nat_eq c) kept) ≡ false → n ≡ length names
      → ((q : ℕ) → lookup (nat_eq q) new ≡ cond (nat_eq c q) (Some n) (lookup (nat_eq q) kept)) → AreFirst (names ++ Some c ∷ []) new
  new_behind new c n h is puts b =
      puts b ∙ ap (λ o. cond (nat_eq c b) (Some n) o) (are b) ∙ at (nat_eq c b) (name_of names b) refl refl ∙ sym (name_of_more names (Some c) b)
    where
      none : (o : Option ℕ) → is_some o ≡ false → o ≡ None
      none None e = refl
      none (Some k) e = cc

      at : (t : Bool) (o : Option ℕ) → nat_eq c b ≡ t → name_of names b ≡ o → cond t (Some n) o ≡ or_last o t (length names)
      at false o e f = sym (not_last o (length names))
      at true None e f = ap Some is
      at true (Some k) e f =
          let same : c ≡ b = eqb-true c b e in
          let gone : lookup (nat_eq b) kept ≡ None = ap (λ d. lookup (nat_eq d) kept) (sym same) ∙ none (lookup (nat_eq c) kept) h in
          let had : lookup (nat_eq b) kept ≡ Some k = are b ∙ f in cc

module _ (names : Names) (kept : List (ℕ × ℕ)) where
  -- a name goes that is bound to nothing
  pub none_gone : AreFirst (names ++ None ∷ []) kept → AreFirst names kept
  none_gone are b = are b ∙ name_of_more names None b ∙ not_last (name_of names b) (length names)

  module _ (c : ℕ) (are : AreFirst (names ++ Some c ∷ []) kept) where
    -- or that isn't the first of its block
    pub other_gone : (lookup (nat_eq c) kept ≡ Some (length names) → ⊥) → AreFirst names kept
    other_gone other b = are b ∙ name_of_more names (Some c) b ∙ at (nat_eq c b) (name_of names b) refl refl
      where
        at : (t : Bool) (o : Option ℕ) → nat_eq c b ≡ t → name_of names b ≡ o → or_last o t (length names) ≡ o
        at false o e f = not_last o (length names)
        at true (Some k) e f = refl
        at true None e f =
            let same : c ≡ b = eqb-true c b e in
            let is : lookup (nat_eq b) kept ≡ Some (length names) = are b ∙ name_of_more names (Some c) b ∙ (λ i. or_last (f i) (e i) (length names)) in
            absurd (other (ap (λ d. lookup (nat_eq d) kept) same ∙ is))

    -- or that is its first, and is kept no more
    pub first_gone : (new : List (ℕ × ℕ)) → lookup (nat_eq c) kept ≡ Some (length names)
        → ((q : ℕ) → lookup (nat_eq q) new ≡ cond (nat_eq c q) None (lookup (nat_eq q) kept)) → AreFirst names new
    first_gone new first gone b =
        gone b ∙ ap (λ o. cond (nat_eq c b) None o) (are b ∙ name_of_more names (Some c) b) ∙ at (nat_eq c b) (name_of names b) refl refl
      where
        at : (t : Bool) (o : Option ℕ) → nat_eq c b ≡ t → name_of names b ≡ o → cond t None (or_last o t (length names)) ≡ o
        at false o e f = not_last o (length names)
        at true None e f = refl
        at true (Some k) e f =
            let same : c ≡ b = eqb-true c b e in
            let below : k < length names = name_of_below names b k f in
            let is : lookup (nat_eq b) kept ≡ Some k = are b ∙ name_of_more names (Some c) b ∙ ap (λ o. or_last o (nat_eq c b) (length names)) f in
            let was : lookup (nat_eq b) kept ≡ Some (length names) = ap (λ d. lookup (nat_eq d) kept) (sym same) ∙ first in
            let equal : k ≡ length names = cc in absurd (omega arith)

-- a block has a name where it has a first
pub named_any : (names : Names) (b : ℕ) → is_some (name_of names b) ≡ list_any (is_bound_to b) names
named_any [] b = refl
named_any (x ∷ names) b = at (is_bound_to b x) (name_of names b) ∙ ap (λ t. is_bound_to b x || t) (named_any names b)
  where
    at : (t : Bool) (o : Option ℕ) → is_some (cond t (Some 0) (option_map suc o)) ≡ (t || is_some o)
    at true o = refl
    at false None = refl
    at false (Some k) = refl

pub is_that : (o : Option ℕ) (n : ℕ) → option_eq nat_eq o (Some n) ≡ true → o ≡ Some n
is_that None n h = cc
is_that (Some k) n h = ap Some (eqb-true k n h)

pub is_not_that : (o : Option ℕ) (n : ℕ) → option_eq nat_eq o (Some n) ≡ false → o ≡ Some n → ⊥
is_not_that None n h e = cc
is_not_that (Some k) n h e = let same : k ≡ n = cc in let is : nat_eq k n ≡ true = eq-eqb k n same in cc

-- ---- how many names are bound to nothing

abbrev of_loose : Option ℕ → ℕ
of_loose bound = cond (is_loose bound) 1 0

pub loose_behind : (names : Names) → loose_count (names ++ None ∷ []) ≡ loose_count names + 1
loose_behind names = sum_by_push of_loose names None

pub bound_behind : (names : Names) (b : ℕ) → loose_count (names ++ Some b ∷ []) ≡ loose_count names
bound_behind names b = let more : loose_count (names ++ Some b ∷ []) ≡ loose_count names + 0 = sum_by_push of_loose names (Some b) in omega (arith, more)

pub loose_gone : (names : Names) (n : ℕ) → n ≡ loose_count (names ++ None ∷ []) → n - 1 ≡ loose_count names
loose_gone names n is = let more = loose_behind names in omega (arith, is, more)

pub bound_gone : (names : Names) (b n : ℕ) → n ≡ loose_count (names ++ Some b ∷ []) → n ≡ loose_count names
bound_gone names b n is = is ∙ bound_behind names b

pub loose_within : (names : Names) → loose_count names ≤ length names
loose_within names = count_by-le-length is_loose names

pub any_loose : (names : Names) → nat_lt 0 (loose_count names) ≡ list_any is_loose names
any_loose [] = refl
any_loose (None ∷ names) = let more : loose_count (None ∷ names) ≡ 1 + loose_count names = sum_by-cons of_loose None names in lt-ltb 0 (loose_count (None ∷ names)) (omega (arith, more))
any_loose (Some b ∷ names) =
    let more : loose_count (Some b ∷ names) ≡ 0 + loose_count names = sum_by-cons of_loose (Some b) names in
    let same : loose_count (Some b ∷ names) ≡ loose_count names = omega (arith, more) in ap (nat_lt 0) same ∙ any_loose names
