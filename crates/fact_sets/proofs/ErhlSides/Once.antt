-- Lists in which each fact stands once, and what is left of a list as facts are added.
use Rattle.std.proofs.Common.{◌≡◌, ◌∙◌, Bool, true, false, ◌||◌, ◌&&◌, cond, not, filter, List, [], ◌∷◌, ◌++◌, refl, sym, ap}
use Rattle.ir_core.specs.declared.expressions.Reg.{Reg}
use Rattle.std.specs.List.{list_all}
use Rattle.erhl_assert.specs.declared.facts.Fact.{Fact}
use Rattle.erhl_assert.specs.declared.fact_set.Kill.{Kill}
use Rattle.erhl_assert.specs.declared.fact_set.Kill.TheVariants.{Naming, Unique, Stored, Called}
use Rattle.erhl_assert.specs.Facts.{same_fact, has_fact, with_fact, with_facts, fact_has, without, fact_names}
use Rattle.erhl_assert.specs.Kills.{is_private, is_unique_of, killed, loads_of, spares}
use Rattle.erhl_assert.specs.Edges.{is_old}
use Rattle.erhl_assert.specs.FactLaws.{same_fact_true}
use Rattle.fact_sets.specs.ErhlSides.Looking.{looked_at}

never : (b : Bool) → (b ≡ true → true ≡ false) → b ≡ false
never true h = h refl
never false h = refl

-- facts that pass a test are found among those that pass it
pub found_left : (q : Fact → Bool) (f : Fact) → q f ≡ true → (fs : List Fact) → has_fact f (filter q fs) ≡ has_fact f fs
found_left q f h [] = refl
found_left q f h (g ∷ gs) =
    (elim (q g) as (λ b. q g ≡ b → has_fact f (cond b (g ∷ filter q gs) (filter q gs)) ≡ (same_fact f g || has_fact f gs)) [
      | true ↦ λ e. ap (λ b. same_fact f g || b) (found_left q f h gs)
      | false ↦ λ e. found_left q f h gs ∙ sym (ap (λ b. b || has_fact f gs) (never (same_fact f g) (λ same. sym h ∙ ap q (same_fact_true f g same) ∙ e)))
    ]) refl

pub filter_append : (q : Fact → Bool) (fs gs : List Fact) → filter q (fs ++ gs) ≡ filter q fs ++ filter q gs
filter_append q [] gs = refl
filter_append q (f ∷ fs) gs =
    elim (q f) as (λ b. cond b (f ∷ filter q (fs ++ gs)) (filter q (fs ++ gs)) ≡ cond b (f ∷ filter q fs) (filter q fs) ++ filter q gs) [
      | true ↦ ap (λ xs. f ∷ xs) (filter_append q fs gs)
      | false ↦ filter_append q fs gs
    ]

append_none : (fs : List Fact) → fs ++ [] ≡ fs
append_none [] = refl
append_none (f ∷ fs) = ap (λ xs. f ∷ xs) (append_none fs)

-- what is left of a list with a fact more
pub left_with : (q : Fact → Bool) (f : Fact) (fs : List Fact) → q f ≡ true → filter q (with_fact f fs) ≡ with_fact f (filter q fs)
left_with q f fs h =
    (elim (has_fact f fs) as (λ b. filter q (cond b fs (fs ++ f ∷ [])) ≡ cond b (filter q fs) (filter q fs ++ f ∷ [])) [
      | true ↦ refl
      | false ↦ filter_append q fs (f ∷ []) ∙ ap (λ b. filter q fs ++ cond b (f ∷ []) []) h
    ])
    ∙ ap (λ b. cond b (filter q fs) (filter q fs ++ f ∷ [])) (sym (found_left q f h fs))

pub left_without : (q : Fact → Bool) (f : Fact) (fs : List Fact) → q f ≡ false → filter q (with_fact f fs) ≡ filter q fs
left_without q f fs h =
    elim (has_fact f fs) as (λ b. filter q (cond b fs (fs ++ f ∷ [])) ≡ filter q fs) [
      | true ↦ refl
      | false ↦ filter_append q fs (f ∷ []) ∙ ap (λ b. filter q fs ++ cond b (f ∷ []) []) h ∙ append_none (filter q fs)
    ]

-- what is left of a list with facts more
pub left_with_all : (q : Fact → Bool) (gs fs : List Fact) → filter q (with_facts gs fs) ≡ with_facts (filter q gs) (filter q fs)
left_with_all q [] fs = refl
left_with_all q (g ∷ gs) fs =
    left_with_all q gs (with_fact g fs)
    ∙ ((elim (q g) as (λ b. q g ≡ b → with_facts (filter q gs) (filter q (with_fact g fs)) ≡ with_facts (cond b (g ∷ filter q gs) (filter q gs)) (filter q fs)) [
      | true ↦ λ e. ap (with_facts (filter q gs)) (left_with q g fs e)
      | false ↦ λ e. ap (with_facts (filter q gs)) (left_without q g fs e)
    ]) refl)

-- what is left of a list in which each stands once is so
pub left_once : (q : Fact → Bool) (fs : List Fact) → with_facts fs [] ≡ fs → with_facts (filter q fs) [] ≡ filter q fs
left_once q fs once = sym (left_with_all q fs []) ∙ ap (filter q) once

pub with_more : (fs gs hs : List Fact) → with_facts (fs ++ gs) hs ≡ with_facts gs (with_facts fs hs)
with_more [] gs hs = refl
with_more (f ∷ fs) gs hs = with_more fs gs (with_fact f hs)

pub one_once : (f : Fact) (fs : List Fact) → with_facts fs [] ≡ fs → with_facts (with_fact f fs) [] ≡ with_fact f fs
one_once f fs once =
    (elim (has_fact f fs) as (λ b. has_fact f fs ≡ b → with_facts (cond b fs (fs ++ f ∷ [])) [] ≡ cond b fs (fs ++ f ∷ [])) [
      | true ↦ λ e. once
      | false ↦ λ e. with_more fs (f ∷ []) [] ∙ ap (with_fact f) once ∙ ap (λ b. cond b fs (fs ++ f ∷ [])) e
    ]) refl

-- what a kill leaves a fact by, where these are known before it
abbrev pub kept_by : Kill → List Fact → Fact → Bool
kept_by (Naming r) fs f = not (fact_names r f)
kept_by (Unique r) fs f = not (is_unique_of r f)
kept_by (Stored address of) fs f = list_all (spares fs address) (loads_of f)
kept_by Called fs f = list_all (λ p. is_private fs p.atom) (loads_of f)

pub killed_is : (k : Kill) (fs : List Fact) → killed k fs ≡ filter (kept_by k fs) fs
killed_is (Naming r) fs = refl
killed_is (Unique r) fs = refl
killed_is (Stored address of) fs = refl
killed_is Called fs = refl

pub killed_once : (k : Kill) (fs : List Fact) → with_facts fs [] ≡ fs → with_facts (killed k fs) [] ≡ killed k fs
killed_once k fs once = ap (λ gs. with_facts gs []) (killed_is k fs) ∙ left_once (kept_by k fs) fs once ∙ sym (killed_is k fs)

-- a fact among those that name no register of a sort
none_left : (test : Reg → Bool) (f : Fact) → fact_has test f ≡ true → (fs : List Fact) → has_fact f (without test fs) ≡ false
none_left test f h [] = refl
none_left test f h (g ∷ gs) =
    (elim (fact_has test g) as (λ b. fact_has test g ≡ b → has_fact f (cond (not b) (g ∷ without test gs) (without test gs)) ≡ false) [
      | true ↦ λ e. none_left test f h gs
      | false ↦ λ e. ap (λ b. b || has_fact f (without test gs)) (never (same_fact f g) (λ same. sym h ∙ ap (fact_has test) (same_fact_true f g same) ∙ e)) ∙ none_left test f h gs
    ]) refl

pub is_left : (test : Reg → Bool) (f : Fact) (fs : List Fact) → has_fact f (without test fs) ≡ (not (fact_has test f) && has_fact f fs)
is_left test f fs =
    (elim (fact_has test f) as (λ b. fact_has test f ≡ b → has_fact f (without test fs) ≡ (not b && has_fact f fs)) [
      | true ↦ λ e. none_left test f e fs
      | false ↦ λ e. found_left (λ g. not (fact_has test g)) f (ap not e) fs
    ]) refl

-- a fact among those that are looked at
pub is_looked_at : (passes_old passed : Bool) (f : Fact) (fs : List Fact) → passed ≡ (passes_old && fact_has is_old f) → has_fact f (looked_at passes_old fs) ≡ (not passed && has_fact f fs)
is_looked_at true passed f fs e = is_left is_old f fs ∙ ap (λ b. not b && has_fact f fs) (sym e)
is_looked_at false passed f fs e = ap (λ b. not b && has_fact f fs) (sym e)
