-- A name that is found by its first index, and a definition that repeats one before it.
use Rattle.std.proofs.Common.{◌≡◌, ◌<◌, ℕ, zero, suc, ◌+◌, Bool, true, false, cond, List, [], ◌∷◌, length, take, drop, get_or, Option, Some, None, refl, ap, sym, subst, ◌∙◌, slice_get, arith}
use Rattle.std.proofs.lemmas.List.{at_drop_more, drop_more}
use Rattle.std.specs.Map.{lookup}
use Rattle.std.specs.Prelude.{◌&&◌, ◌||◌, is_none, nat_lt, option_map}
use Rattle.indexmap.specs.IndexMap.{insert_entry}
use Rattle.ir_types.specs.declared.names.Name.{Name}
use Rattle.ir_types.specs.NameLaws.{left_true, name_equivalence, right_true, same_name_refl, same_name_true}
use Rattle.ir_types.specs.Same.{same_name}
use Rattle.name_claims.specs.declared.claims.Definition.{Definition}
use Rattle.name_claims.specs.Faults.{find, is_defined, repeats}
use Rattle.name_claims.specs.Indexes.{AreAllNew, at_name, first_at, is_below, or_else}

abbrev at_in : List Definition → Option ℕ → Option Definition
at_in ds None = None
at_in ds (Some k) = slice_get ds k

behind : (d : Definition) (ds : List Definition) (k : Option ℕ) → at_in (d ∷ ds) (option_map (λ k. suc k) k) ≡ at_in ds k
behind d ds None = refl
behind d ds (Some k) = refl

found : (name : Name) (ds : List Definition) → at_in ds (first_at name ds) ≡ find name ds
found name [] = refl
found name (d ∷ ds) = by (same_name name d.name) (found name ds)
  where
    by : (same : Bool) → at_in ds (first_at name ds) ≡ find name ds → at_in (d ∷ ds) (cond same (Some 0) (option_map (λ k. suc k) (first_at name ds))) ≡ cond same (Some d) (find name ds)
    by true more = refl
    by false more = behind d ds (first_at name ds) ∙ more

pub found_some : (name : Name) (ds : List Definition) (k : ℕ) → first_at name ds ≡ Some k → slice_get ds k ≡ find name ds
found_some name ds k e = ap (at_in ds) (sym e) ∙ found name ds

pub found_none : (name : Name) (ds : List Definition) → first_at name ds ≡ None → find name ds ≡ None
found_none name ds e = sym (ap (at_in ds) (sym e) ∙ found name ds)

-- ---- what is defined before an index

none_less : (k : ℕ) → nat_lt k 0 ≡ false
none_less k = grind arith

zero_less : (k : ℕ) → nat_lt 0 (suc k) ≡ true
zero_less k = grind arith

both_less : (j k : ℕ) → nat_lt (suc j) (suc k) ≡ nat_lt j k
both_less j k = grind arith

below_zero : (at : Option ℕ) → is_below at 0 ≡ false
below_zero None = refl
below_zero (Some k) = none_less k

below_suc : (at : Option ℕ) (k : ℕ) → is_below (option_map (λ j. suc j) at) (suc k) ≡ is_below at k
below_suc None k = refl
below_suc (Some j) k = both_less j k

pub defined_below : (name : Name) (ds : List Definition) (k : ℕ) → is_below (first_at name ds) k ≡ is_defined name (take k ds)
defined_below name [] zero = refl
defined_below name [] (suc k) = refl
defined_below name (d ∷ ds) zero = below_zero (first_at name (d ∷ ds))
defined_below name (d ∷ ds) (suc k) = by (same_name name d.name) (defined_below name ds k)
  where
    by : (same : Bool) → is_below (first_at name ds) k ≡ is_defined name (take k ds) → is_below (cond same (Some 0) (option_map (λ j. suc j) (first_at name ds))) (suc k) ≡ (same || is_defined name (take k ds))
    by true more = zero_less k
    by false more = below_suc (first_at name ds) k ∙ more

-- ---- one more name, put before those that are there

alike : (same : Bool) (a b : ℕ) (rest : Option ℕ) → cond same (Some a) rest ≡ cond same (Some a) (cond same (Some b) rest)
alike true a b rest = refl
alike false a b rest = refl

apart : (here there : Bool) (a b : ℕ) (rest : Option ℕ) → (here ≡ true → there ≡ true → ⊥) → cond here (Some b) (cond there (Some a) rest) ≡ cond there (Some a) (cond here (Some b) rest)
apart true true a b rest never = absurd (never refl refl)
apart true false a b rest never = refl
apart false true a b rest never = refl
apart false false a b rest never = refl

not_both : (name a b : Name) → same_name a b ≡ false → same_name name b ≡ true → same_name name a ≡ true → ⊥
not_both name a b differ x y =
    let p = same_name_true name b x in
    let q = same_name_true name a y in
    let r = same_name_refl b in
    cc

pub put_entry : {K : Type 0} (of : K → Name) (name : Name) (k : K) (v : ℕ) (es : List (K × ℕ)) → lookup (λ q. same_name name (of q)) (insert_entry (λ x y. same_name (of x) (of y)) es k v) ≡ cond (same_name name (of k)) (Some v) (lookup (λ q. same_name name (of q)) es)
put_entry of name k v [] = refl
put_entry of name k v (e ∷ es) = by (same_name (of k) (of e.0)) (put_entry of name k v es) refl
  where
    by : (same : Bool) → lookup (λ q. same_name name (of q)) (insert_entry (λ x y. same_name (of x) (of y)) es k v) ≡ cond (same_name name (of k)) (Some v) (lookup (λ q. same_name name (of q)) es) → same_name (of k) (of e.0) ≡ same → lookup (λ q. same_name name (of q)) (cond same ((e.0, v) ∷ es) (e ∷ insert_entry (λ x y. same_name (of x) (of y)) es k v)) ≡ cond (same_name name (of k)) (Some v) (cond (same_name name (of e.0)) (Some e.1) (lookup (λ q. same_name name (of q)) es))
    by true more is =
        alike (same_name name (of e.0)) v e.1 (lookup (λ q. same_name name (of q)) es)
        ∙ ap (λ n. cond (same_name name n) (Some v) (cond (same_name name (of e.0)) (Some e.1) (lookup (λ q. same_name name (of q)) es))) (sym (same_name_true (of k) (of e.0) is))
    by false more is =
        ap (cond (same_name name (of e.0)) (Some e.1)) more
        ∙ apart (same_name name (of e.0)) (same_name name (of k)) v e.1 (lookup (λ q. same_name name (of q)) es) (not_both name (of k) (of e.0) is)

pub put_first : {K : Type 0} (of : K → Name) (name : Name) (k : K) (v : ℕ) (old new : List (K × ℕ)) → new ≡ insert_entry (λ x y. same_name (of x) (of y)) old k v → lookup (λ q. same_name name (of q)) new ≡ or_else (at_name (of k) v name) (lookup (λ q. same_name name (of q)) old)
put_first of name k v old new is =
    ap (λ es. lookup (λ q. same_name name (of q)) es) is ∙ put_entry of name k v old ∙ chosen (same_name name (of k)) v (lookup (λ q. same_name name (of q)) old)
  where
    chosen : (here : Bool) (a : ℕ) (rest : Option ℕ) → cond here (Some a) rest ≡ or_else (cond here (Some a) None) rest
    chosen true a rest = refl
    chosen false a rest = refl

-- ---- where a name stands first among those from an index on

abbrev pub first_behind : Name → ℕ → List Definition → Option ℕ
first_behind name at ds = option_map (λ k. k + at) (first_at name (drop at ds))

moved : (at : ℕ) (here : Bool) (first : Option ℕ) → or_else (cond here (Some at) None) (option_map (λ k. k + (at + 1)) first) ≡ option_map (λ k. k + at) (cond here (Some 0) (option_map (λ k. suc k) first))
moved at true first = ap Some (omega arith)
moved at false None = refl
moved at false (Some k) = ap Some (omega arith)

pub behind_more : (name : Name) (ds : List Definition) (at : ℕ) (d : Definition) → at < length ds → or_else (at_name (get_or ds at d).name at name) (first_behind name (at + 1) ds) ≡ first_behind name at ds
behind_more name ds at d inside =
    moved at (same_name name (get_or ds at d).name) (first_at name (drop (at + 1) ds)) ∙ sym (at_drop_more (λ rest. option_map (λ k. k + at) (first_at name rest)) ds at d inside)

-- ---- where no name is defined again

turned : (a b : Name) → same_name b a ≡ false → same_name a b ≡ false
turned a b differ = name_equivalence.symm a b ∙ differ

later : (name : Name) (ds : List Definition) (k : ℕ) (d : Definition) → first_at name ds ≡ None → slice_get ds k ≡ Some d → same_name d.name name ≡ false
later name [] k d none is = cc
later name (x ∷ xs) zero d none is = by (same_name name x.name) refl none
  where
    by : (same : Bool) → same_name name x.name ≡ same → cond same (Some 0) (option_map (λ k. suc k) (first_at name xs)) ≡ None → same_name d.name name ≡ false
    by true e none = cc
    by false e none = let there : x ≡ d = cc in turned d.name name (ap (λ (y : Definition). same_name name y.name) (sym there) ∙ e)
later name (x ∷ xs) (suc k) d none is = by (same_name name x.name) (first_at name xs) (λ e. later name xs k d e is) refl none
  where
    by : (same : Bool) (first : Option ℕ) → (first_at name xs ≡ None → same_name d.name name ≡ false) → first_at name xs ≡ first → cond same (Some 0) (option_map (λ k. suc k) first) ≡ None → same_name d.name name ≡ false
    by true first more e none = cc
    by false None more e none = more e
    by false (Some j) more e none = cc

pub new_repeats_none : (ds : List Definition) (k : ℕ) → AreAllNew ds → false ≡ repeats (slice_get ds k) (take k ds)
new_repeats_none [] k new = refl
new_repeats_none (d ∷ ds) zero new = refl
new_repeats_none (d ∷ ds) (suc k) new = by (slice_get ds k) refl (new_repeats_none ds k new.1)
  where
    by : (at : Option Definition) → slice_get ds k ≡ at → false ≡ repeats at (take k ds) → false ≡ repeats at (d ∷ take k ds)
    by None is more = refl
    by (Some e) is more = rw (later d.name ds k e new.0 is) more

none_moved : (n : ℕ) (first : Option ℕ) → is_none (option_map (λ k. k + n) first) ≡ true → first ≡ None
none_moved n None e = refl
none_moved n (Some k) e = cc

pub more_new : (ds : List Definition) (at : ℕ) (d : Definition) (old new : Bool) (first : Option ℕ) → at < length ds → new ≡ (old && is_none first) → first ≡ first_behind (get_or ds at d).name (at + 1) ds → (old ≡ true → AreAllNew (drop (at + 1) ds)) → new ≡ true → AreAllNew (drop at ds)
more_new ds at d old new first inside both is more new_too =
    let found = first_at (get_or ds at d).name (drop (at + 1) ds) in
    let none = ap is_none (sym is) ∙ right_true old (is_none first) (sym both ∙ new_too) in
    subst AreAllNew (sym (drop_more ds at d inside)) (none_moved (at + 1) found none, more (left_true old (is_none first) (sym both ∙ new_too)))

-- ---- as code asks

pub repeated_none : (ds : List Definition) (d : Definition) (k : ℕ) → first_at d.name ds ≡ None → false ≡ is_defined d.name (take k ds)
repeated_none ds d k e = sym (ap (λ at. is_below at k) e) ∙ defined_below d.name ds k

pub repeated_some : (ds : List Definition) (d : Definition) (j k : ℕ) → first_at d.name ds ≡ Some j → nat_lt j k ≡ is_defined d.name (take k ds)
repeated_some ds d j k e = sym (ap (λ at. is_below at k) e) ∙ defined_below d.name ds k

-- ---- by a walk

pub not_here : (name : Name) (ds : List Definition) (at : ℕ) (d : Definition) → at < length ds → same_name name (get_or ds at d).name ≡ false → first_behind name (at + 1) ds ≡ first_behind name at ds
not_here name ds at d inside other =
    sym (ap (λ here. or_else (cond here (Some at) None) (first_behind name (at + 1) ds)) other) ∙ behind_more name ds at d inside

pub here : (name : Name) (ds : List Definition) (at : ℕ) (d : Definition) → at < length ds → same_name name (get_or ds at d).name ≡ true → Some at ≡ first_behind name at ds
here name ds at d inside same =
    sym (ap (λ here. or_else (cond here (Some at) None) (first_behind name (at + 1) ds)) same) ∙ behind_more name ds at d inside
