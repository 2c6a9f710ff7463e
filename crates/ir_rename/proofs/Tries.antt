-- A text that is tried, by where the names stand.
use Rattle.std.proofs.Common.{◌≡◌, ◌∙◌, ℕ, zero, suc, ◌<◌, Bool, true, false, cond, List, [], ◌∷◌, ◌++◌, Option, None, Some, refl, sym, ap, arith}
use Rattle.std.specs.Option.{is_some}
use Rattle.ir_types.specs.declared.names.Name.{Name}
use Rattle.ir_types.specs.declared.names.Name.TheVariants.{Text}
use Rattle.ir_core.specs.NameIndexes.Among.{is_among, place_among}
use Rattle.ir_core.proofs.NameIndexes.Among.{among_is, is_there}
use Rattle.ir_core.proofs.NameIndexes.FirstPlaces.{no_place, place_is}
use Rattle.ir_rename.specs.Named.{free_in}

not_among : (name : Name) (names : List Name) → place_among name names ≡ None → is_among name names ≡ false
not_among name names none = by (is_among name names) refl
  where
    by : (b : Bool) → is_among name names ≡ b → is_among name names ≡ false
    by true e = absurd (no_place name names none (among_is name names e))
    by false e = e

among : (name : Name) (names : List Name) (k : ℕ) → place_among name names ≡ Some k → is_among name names ≡ true
among name names k e = let there = place_is name names k e in is_there name names (k, there.0, there.1)

pub has_place : (name : Name) (names : List Name) → is_some (place_among name names) ≡ is_among name names
has_place name names = by (place_among name names) refl
  where
    by : (o : Option ℕ) → place_among name names ≡ o → is_some (place_among name names) ≡ is_among name names
    by None e = ap is_some e ∙ sym (not_among name names e)
    by (Some k) e = ap is_some e ∙ sym (among name names k e)

pub free_now : (tries : ℕ) (taken : List Name) (text : List ℕ) → 0 < tries → is_among (Text text) taken ≡ false → free_in tries taken text ≡ text
free_now zero taken text some e = absurd (omega (arith, some))
free_now (suc tries) taken text some e = ap (λ b. cond b (free_in tries taken (text ++ 46 ∷ [])) text) e

pub free_next : (tries : ℕ) (taken : List Name) (text : List ℕ) → is_among (Text text) taken ≡ true → free_in (suc tries) taken text ≡ free_in tries taken (text ++ 46 ∷ [])
free_next tries taken text e = ap (λ b. cond b (free_in tries taken (text ++ 46 ∷ [])) text) e
