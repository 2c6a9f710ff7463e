-- What is indexed stays so where things are added or taken out, and no register is spoken of whose name isn't there.
use Rattle.std.proofs.Common.{◌≡◌, ◌∙◌, Bool, true, false, ◌||◌, cond, not, filter, List, [], ◌∷◌, ◌++◌, refl, sym, ap}
use Rattle.std.proofs.lemmas.List.Folds.{list_any-append}
use Rattle.std.specs.List.{list_any}
use Rattle.indexmap.specs.IndexSet.{insert_key}
use Rattle.ir_types.specs.declared.names.Name.{Name}
use Rattle.ir_core.specs.declared.expressions.Reg.{Reg}
use Rattle.ir_types.specs.Same.{same_name}
use Rattle.ir_core.specs.Same.{same_reg}
use Rattle.ir_types.specs.NameLaws.{same_name_refl}
use Rattle.ir_core.proofs.SameLaws.{same_reg_true}
use Rattle.erhl_assert.specs.Named.{name_of}
use Rattle.fact_sets.specs.Names.{IsIndexed}

pub true_or_false : (b : Bool) → (b ≡ true → ⊥) → b ≡ false
true_or_false true h = absurd (h refl)
true_or_false false h = refl

pub or_cases : {P : Type 0} (a b : Bool) → (a || b) ≡ true → (a ≡ true → P) → (b ≡ true → P) → P
or_cases true b h f g = f refl
or_cases false b h f g = g h

or_right : (a : Bool) → (a || true) ≡ true
or_right true = refl
or_right false = refl

abbrev pub Has : Name → List Name → Type 0
Has n names = list_any (same_name n) names ≡ true

any_at_end : (n k : Name) (names : List Name) → (list_any (same_name n) names || same_name n k) ≡ true → Has n (names ++ k ∷ [])
any_at_end n k names h = list_any-append (same_name n) names (k ∷ []) ∙ (elim (same_name n k) as (λ b. (list_any (same_name n) names || b) ≡ true → (list_any (same_name n) names || (b || false)) ≡ true) [ true ↦ λ e. e | false ↦ λ e. e ]) h

pub insert_keeps : (n k : Name) (names : List Name) → Has n names → Has n (insert_key same_name names k)
insert_keeps n k names h = (elim (list_any (same_name k) names) as (λ b. Has n (cond b names (names ++ k ∷ [])))
    [ true ↦ h | false ↦ any_at_end n k names (ap (λ b. b || same_name n k) h) ])

insert_has : (k : Name) (names : List Name) → Has k (insert_key same_name names k)
insert_has k names = (elim (list_any (same_name k) names) as (λ b. list_any (same_name k) names ≡ b → Has k (cond b names (names ++ k ∷ [])))
    [ true ↦ λ e. e | false ↦ λ e. any_at_end k k names (ap (λ b. list_any (same_name k) names || b) (same_name_refl k) ∙ or_right (list_any (same_name k) names)) ]) refl

pub register_has : (r s : Reg) (names : List Name) → same_reg r s ≡ true → Has (name_of r) (insert_key same_name names (name_of s))
register_has r s names h = let e : r ≡ s = same_reg_true r s h in let here = insert_has (name_of r) names in rw (← e) here

pub any_append : {X : Type 0} (p : X → Bool) (xs : List X) (x : X) → list_any p (xs ++ x ∷ []) ≡ true → (list_any p xs || p x) ≡ true
any_append p xs x h = (elim (p x) as (λ b. (list_any p xs || (b || false)) ≡ true → (list_any p xs || b) ≡ true) [ true ↦ λ e. e | false ↦ λ e. e ]) (sym (list_any-append p xs (x ∷ [])) ∙ h)

any_filter : {X : Type 0} (p q : X → Bool) (xs : List X) → list_any p (filter q xs) ≡ true → list_any p xs ≡ true
any_filter p q [] h = h
any_filter p q (x ∷ xs) h =
    (elim (q x) as (λ b. list_any p (cond b (x ∷ filter q xs) (filter q xs)) ≡ true → (p x || list_any p xs) ≡ true) [
      | true ↦ λ k. or_cases (p x) (list_any p (filter q xs)) k (λ e. rw e refl) (λ e. rw (any_filter p q xs e) (or_right (p x)))
      | false ↦ λ k. rw (any_filter p q xs k) (or_right (p x))
    ]) h

-- what is left is indexed
pub left_indexed : {X : Type 0} (speaks_of : Reg → X → Bool) (names : List Name) (q : X → Bool) (xs : List X) → IsIndexed speaks_of names xs → IsIndexed speaks_of names (filter q xs)
unfolding IsIndexed
left_indexed speaks_of names q xs indexed r h = indexed r (any_filter (speaks_of r) q xs h)

-- where the name isn't there, nothing speaks of the register
pub unspoken : {X : Type 0} (speaks_of : Reg → X → Bool) (names : List Name) (xs : List X) (r : Reg) → IsIndexed speaks_of names xs → list_any (same_name (name_of r)) names ≡ false → list_any (speaks_of r) xs ≡ false
unfolding IsIndexed
unspoken speaks_of names xs r indexed h = true_or_false _ (λ e. let here = indexed r e in let bad : true ≡ false = sym here ∙ h in cc)

pub filter_none : {X : Type 0} (p : X → Bool) (xs : List X) → list_any p xs ≡ false → filter (λ x. not (p x)) xs ≡ xs
filter_none p [] h = refl
filter_none p (x ∷ xs) h =
    (elim (p x) as (λ b. (b || list_any p xs) ≡ false → cond (not b) (x ∷ filter (λ y. not (p y)) xs) (filter (λ y. not (p y)) xs) ≡ x ∷ xs)
    [ true ↦ λ k. cc | false ↦ λ k. ap (λ ys. x ∷ ys) (filter_none p xs k) ]) h

-- so nothing is taken out
pub none_left_out : {X : Type 0} (speaks_of : Reg → X → Bool) (names : List Name) (xs : List X) (r : Reg) → IsIndexed speaks_of names xs → list_any (same_name (name_of r)) names ≡ false → filter (λ x. not (speaks_of r x)) xs ≡ xs
none_left_out speaks_of names xs r indexed h = filter_none (speaks_of r) xs (unspoken speaks_of names xs r indexed h)
