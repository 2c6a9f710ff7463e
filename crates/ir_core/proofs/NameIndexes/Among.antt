-- A name is among several exactly where they contain it.
use Rattle.std.proofs.Common.{◌≡◌, ◌∙◌, ⊎_elim, zero, suc, ◌<◌, ℕ, true, false, List, [], ◌∷◌, length, sym, ap, arith}
use Rattle.std.proofs.lemmas.Bool.{or_cases, or_left, or_right}
use Rattle.std.specs.List.{Contains, slice_index_or}
use Rattle.ir_types.specs.declared.names.Name.{Name}
use Rattle.ir_types.specs.NameLaws.{same_name_true, same_name_refl}
use Rattle.ir_types.specs.Same.{same_name}
use Rattle.ir_core.specs.NameIndexes.Among.{is_among}

pub among_is : (name : Name) (names : List Name) → is_among name names ≡ true → Contains names name
among_is name [] e = cc
among_is name (x ∷ names) e =
    ⊎_elim
    (λ here. (0, omega arith, sym (same_name_true name x here)))
    (λ there. let more = among_is name names there in (suc more.0, omega (arith, more.1), more.2))
    (or_cases (same_name name x) (is_among name names) e)

among_at : (name : Name) (names : List Name) (k : ℕ) → k < length names → slice_index_or names k name ≡ name → is_among name names ≡ true
among_at name [] k inside e = absurd (omega arith)
among_at name (x ∷ names) zero inside e = or_left (same_name name x) (is_among name names) (ap (same_name name) e ∙ same_name_refl name)
among_at name (x ∷ names) (suc k) inside e = or_right (same_name name x) (is_among name names) (among_at name names k (omega arith) e)

pub is_there : (name : Name) (names : List Name) → Contains names name → is_among name names ≡ true
is_there name names there = among_at name names there.0 there.1 there.2

pub not_there : (name : Name) (names : List Name) → is_among name names ≡ false → Contains names name → ⊥
not_there name names e there = let yes = is_there name names there in cc
