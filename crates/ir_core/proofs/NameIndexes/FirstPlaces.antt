-- An index in which the names of a list are put from the last one to the first tells where each stands first.
use Rattle.std.proofs.Common.{◌≡◌, ◌<◌, ◌≤◌, ◌+◌, ◌∙◌, ⊎_elim, ℕ, Bool, true, false, cond, ltb, List, [], ◌∷◌, length, drop, get_or, Option, None, Some, refl, ap, sym, arith}
use Rattle.std.proofs.lemmas.Bool.{cases_lt, lt-ltb}
use Rattle.std.proofs.lemmas.Iterator.Adapters.{position_from-zero}
use Rattle.std.proofs.lemmas.List.{at_drop_more}
use Rattle.std.proofs.lemmas.List.Quantifiers.{position-Some}
use Rattle.std.proofs.lemmas.List.Sums.{fails_before_first}
use Rattle.std.specs.List.{Contains, position_from, position_or_len}
use Rattle.std.specs.Map.{lookup}
use Rattle.indexmap.specs.IndexMap.{insert_entry}
use Rattle.ir_types.specs.declared.names.Name.{Name}
use Rattle.ir_types.specs.NameLaws.{same_name_refl, same_name_true}
use Rattle.ir_types.specs.Same.{same_name}
use Rattle.ir_core.specs.NameIndexes.Among.{place_among}
use Rattle.ir_core.specs.NameIndexes.Places.{placed}

-- ---- one more name, put before those that are there

alike : (same : Bool) (a b : ℕ) (rest : Option ℕ) → cond same (Some a) rest ≡ cond same (Some a) (cond same (Some b) rest)
alike true a b rest = refl
alike false a b rest = refl

apart : (here there : Bool) (a b : ℕ) (rest : Option ℕ) → (here ≡ true → there ≡ true → ⊥) → cond here (Some b) (cond there (Some a) rest) ≡ cond there (Some a) (cond here (Some b) rest)
apart true true a b rest never = absurd (never refl refl)
apart true false a b rest never = refl
apart false true a b rest never = refl
apart false false a b rest never = refl

not_both : (name a b : Name) → same_name a b ≡ false → same_name name b ≡ true → same_name name a ≡ true → ⊥
not_both name a b differ x y =
    let p = same_name_true name b x in
    let q = same_name_true name a y in
    let r = same_name_refl b in
    cc

put_entry : {K : Type 0} (of : K → Name) (name : Name) (k : K) (v : ℕ) (es : List (K × ℕ)) → lookup (λ q. same_name name (of q)) (insert_entry (λ x y. same_name (of x) (of y)) es k v) ≡ cond (same_name name (of k)) (Some v) (lookup (λ q. same_name name (of q)) es)
put_entry of name k v [] = refl
put_entry of name k v (e ∷ es) = by (same_name (of k) (of e.0)) (put_entry of name k v es) refl
  where
    by : (same : Bool) → lookup (λ q. same_name name (of q)) (insert_entry (λ x y. same_name (of x) (of y)) es k v) ≡ cond (same_name name (of k)) (Some v) (lookup (λ q. same_name name (of q)) es) → same_name (of k) (of e.0) ≡ same → lookup (λ q. same_name name (of q)) (cond same ((e.0, v) ∷ es) (e ∷ insert_entry (λ x y. same_name (of x) (of y)) es k v)) ≡ cond (same_name name (of k)) (Some v) (cond (same_name name (of e.0)) (Some e.1) (lookup (λ q. same_name name (of q)) es))
    by true more is =
        alike (same_name name (of e.0)) v e.1 (lookup (λ q. same_name name (of q)) es)
        ∙ ap (λ n. cond (same_name name n) (Some v) (cond (same_name name (of e.0)) (Some e.1) (lookup (λ q. same_name name (of q)) es))) (sym (same_name_true (of k) (of e.0) is))
    by false more is =
        ap (cond (same_name name (of e.0)) (Some e.1)) more
        ∙ apart (same_name name (of e.0)) (same_name name (of k)) v e.1 (lookup (λ q. same_name name (of q)) es) (not_both name (of k) (of e.0) is)

pub put_first : {K : Type 0} (of : K → Name) (name : Name) (k : K) (v : ℕ) (old new : List (K × ℕ)) → new ≡ insert_entry (λ x y. same_name (of x) (of y)) old k v → lookup (λ q. same_name name (of q)) new ≡ placed (of k) v (λ n. lookup (λ q. same_name n (of q)) old) name
put_first of name k v old new is = ap (λ es. lookup (λ q. same_name name (of q)) es) is ∙ put_entry of name k v old

-- ---- where a name stands first among those from a place on

abbrev pub place_behind : Name → ℕ → List Name → Option ℕ
place_behind name at names = position_from (same_name name) at (drop at names)

pub behind_more : (name : Name) (names : List Name) (at : ℕ) (d : Name) → at < length names → cond (same_name name (get_or names at d)) (Some at) (place_behind name (at + 1) names) ≡ place_behind name at names
behind_more name names at d inside = sym (at_drop_more (position_from (same_name name) at) names at d inside)

pub behind_none : (name : Name) (names : List Name) → place_among name names ≡ place_behind name 0 names
behind_none name names = position_from-zero (same_name name) names

-- ---- where a name stands

pub place_is : (x : Name) (xs : List Name) (n : ℕ) → place_among x xs ≡ Some n → (n < length xs) × (get_or xs n x ≡ x)
place_is x xs n e =
    let found = position-Some (same_name x) xs n x e in (found.0, sym (same_name_true x (get_or xs n x) found.1))

no_place_by : (p : ℕ) (l : ℕ) → cond (ltb p l) (Some p) None ≡ None → l ≤ p
no_place_by p l e = ⊎_elim (λ less. let t = lt-ltb p l less in absurd (cc)) (λ ge. ge) (cases_lt p l)

pub no_place : (x : Name) (xs : List Name) → place_among x xs ≡ None → Contains xs x → ⊥
no_place x xs e (n, within, is) =
    let behind = no_place_by (position_or_len (same_name x) xs) (length xs) e in
    let fails = fails_before_first (same_name x) xs n x (omega arith) in
    let same : same_name x (get_or xs n x) ≡ true = ap (same_name x) is ∙ same_name_refl x in
    absurd (cc)
