-- The functions that take further arguments, each at the place where it stands first of its name.
use Rattle.std.proofs.Common.{◌≡◌, ◌∙◌, ◌+◌, ◌&&◌, ℕ, suc, Bool, true, false, cond, List, [], ◌∷◌, Option, None, Some, refl, sym, ap, subst, slice_get, if◌then◌else◌, arith}
use Rattle.std.specs.Option.{option_and_then, option_or}
use Rattle.ir_core.specs.declared.modules.Declaration.{Declaration}
use Rattle.ir_types.specs.declared.names.Name.{Name}
use Rattle.ir_types.specs.NameLaws.{same_name_true}
use Rattle.ir_types.specs.Same.{same_name}
use Rattle.ir_core.specs.declared.name_index.places.PlaceIndex.{PlaceIndex}
use Rattle.ir_core.specs.NameIndexes.Places.{place_in, placed}
use Rattle.ir_printer.specs.Called.{TellsPlaces, place_from}
use Rattle.ir_printer.specs.Printed.{called_in, takes_further}

pub or_none : {A : Type 0} (o : Option A) → option_or o None ≡ o
or_none None = refl
or_none (Some x) = refl

-- the first of these, or else one behind them
pub joined : (old new : Option ℕ) (at : ℕ) (d : Declaration) (ds : List Declaration) (x : Name) → new ≡ option_or old (place_from at (d ∷ []) x)
    → option_or new (place_from (at + 1) ds x) ≡ option_or old (place_from at (d ∷ ds) x)
joined old new at d ds x is = ap (λ o. option_or o (place_from (at + 1) ds x)) is ∙ by old (takes_further x d)
  where
    by : (o : Option ℕ) (b : Bool) → option_or (option_or o (cond b (Some at) None)) (place_from (at + 1) ds x) ≡ option_or o (cond b (Some at) (place_from (at + 1) ds x))
    by (Some k) b = refl
    by None true = refl
    by None false = refl

-- ---- one more

not_further : (at : ℕ) (d : Declaration) (x : Name) → d.variadic ≡ false → place_from at (d ∷ []) x ≡ None
not_further at d x e = ap (λ b. cond (b && same_name x d.name) (Some at) None) e

pub put_none : (o : Option ℕ) (at : ℕ) (d : Declaration) (x : Name) → d.variadic ≡ false → o ≡ option_or o (place_from at (d ∷ []) x)
put_none o at d x e = sym (ap (option_or o) (not_further at d x e) ∙ or_none o)

-- where one of that name is there
pub put_there : (places : PlaceIndex) (at : ℕ) (d : Declaration) (k : ℕ) → place_in places d.name ≡ Some k
    → (x : Name) → place_in places x ≡ option_or (place_in places x) (place_from at (d ∷ []) x)
put_there places at d k there x = go (same_name x d.name) refl
  where
    by : (o : Option ℕ) (b : Bool) → o ≡ Some k → o ≡ option_or o (cond b (Some at) None)
    by o b e = e ∙ sym (ap (λ p. option_or p (cond b (Some at) None)) e)

    both : (b : Bool) → b && false ≡ false
    both true = refl
    both false = refl

    go : (b : Bool) → same_name x d.name ≡ b → place_in places x ≡ option_or (place_in places x) (place_from at (d ∷ []) x)
    go true e = by (place_in places x) (takes_further x d) (ap (place_in places) (same_name_true x d.name e) ∙ there)
    go false e =
        sym (ap (λ b. option_or (place_in places x) (cond (d.variadic && b) (Some at) None)) e
        ∙ ap (λ b. option_or (place_in places x) (cond b (Some at) None)) (both d.variadic)
        ∙ or_none (place_in places x))

-- where none is there, it is put
pub put_new : (places new : PlaceIndex) (at : ℕ) (d : Declaration) → d.variadic ≡ true → place_in places d.name ≡ None
    → ((x : Name) → place_in new x ≡ placed d.name at (place_in places) x) → (x : Name) → place_in new x ≡ option_or (place_in places x) (place_from at (d ∷ []) x)
put_new places new at d further none put x = put x ∙ go (same_name x d.name) refl
  where
    go : (b : Bool) → same_name x d.name ≡ b → placed d.name at (place_in places) x ≡ option_or (place_in places x) (place_from at (d ∷ []) x)
    go true e =
        ap (λ b. if b then Some at else place_in places x) e
        ∙ sym (ap (λ o. option_or o (place_from at (d ∷ []) x)) (ap (place_in places) (same_name_true x d.name e) ∙ none)
        ∙ ap (λ b. cond (b && same_name x d.name) (Some at) None) further ∙ ap (λ b. cond b (Some at) None) e)
    go false e =
        ap (λ b. if b then Some at else place_in places x) e
        ∙ sym (ap (λ b. option_or (place_in places x) (cond (b && same_name x d.name) (Some at) None)) further
        ∙ ap (λ b. option_or (place_in places x) (cond b (Some at) None)) e ∙ or_none (place_in places x))

-- ---- the one at a place

-- from a place on, which is counted from that number
pub found_from : (all ds : List Declaration) (at : ℕ) (x : Name) → ((k : ℕ) → slice_get all (k + at) ≡ slice_get ds k)
    → option_and_then (slice_get all) (place_from at ds x) ≡ called_in ds x
found_from all [] at x same = refl
found_from all (d ∷ ds) at x same = by (takes_further x d) (found_from all ds (at + 1) x (λ k. subst (λ n. slice_get all n ≡ slice_get ds k) (omega arith) (same (suc k))))
  where
    by : (b : Bool) → option_and_then (slice_get all) (place_from (at + 1) ds x) ≡ called_in ds x
        → option_and_then (slice_get all) (cond b (Some at) (place_from (at + 1) ds x)) ≡ cond b (Some d) (called_in ds x)
    by true more = subst (λ n. slice_get all n ≡ Some d) (omega arith) (same 0)
    by false more = more

-- the one at the place that is told
pub found_at : (ds : List Declaration) (places : PlaceIndex) → TellsPlaces places ds → (x : Name) (place : Option ℕ) → place ≡ place_in places x
    → option_and_then (slice_get ds) place ≡ called_in ds x
found_at ds places tells x place is =
    ap (option_and_then (slice_get ds)) (is ∙ tells x) ∙ found_from ds ds 0 x (λ k. ap (slice_get ds) (omega arith))
