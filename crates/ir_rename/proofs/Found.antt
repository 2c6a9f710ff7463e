-- Names that are found by an index are those that the renaming gives.
use Rattle.std.proofs.Common.{◌≡◌, ◌∙◌, ℕ, zero, suc, ◌+◌, Bool, true, false, cond, List, [], ◌∷◌, drop, get_or, Some, refl, sym, ap, arith}
use Rattle.std.specs.List.{position_from}
use Rattle.ir_types.specs.declared.names.Name.{Name}
use Rattle.ir_types.specs.Same.{same_name}
use Rattle.ir_core.specs.NameIndexes.Places.{ArePlaces}
use Rattle.ir_core.proofs.NameIndexes.FirstPlaces.{behind_none}
use Rattle.ir_rename.specs.declared.renaming.Renaming.{Renaming}
use Rattle.ir_rename.specs.Lent.{given_at, renamed}
use Rattle.ir_rename.specs.Numbered.{renaming}

-- ---- what is given from a place on

none_given : (from : List Name) (name : Name) → renaming from [] name ≡ name
none_given [] name = refl
none_given (x ∷ from) name = refl

head_of : (at : ℕ) (given : List Name) (y : Name) (rest : List Name) (name : Name) → drop at given ≡ y ∷ rest → get_or given at name ≡ y
head_of zero [] y rest name e = cc
head_of zero (z ∷ given) y rest name e = cc
head_of (suc at) [] y rest name e = cc
head_of (suc at) (z ∷ given) y rest name e = head_of at given y rest name e

tail_of : (at : ℕ) (given : List Name) (y : Name) (rest : List Name) → drop at given ≡ y ∷ rest → drop (suc at) given ≡ rest
tail_of zero [] y rest e = cc
tail_of zero (z ∷ given) y rest e = cc
tail_of (suc at) [] y rest e = cc
tail_of (suc at) (z ∷ given) y rest e = tail_of at given y rest e

none_at : (at : ℕ) (given : List Name) (name : Name) → drop at given ≡ [] → get_or given at name ≡ name
none_at zero [] name e = refl
none_at zero (z ∷ given) name e = cc
none_at (suc at) [] name e = refl
none_at (suc at) (z ∷ given) name e = none_at at given name e

none_after : (at : ℕ) (given : List Name) → drop at given ≡ [] → drop (suc at) given ≡ []
none_after zero [] e = refl
none_after zero (z ∷ given) e = cc
none_after (suc at) [] e = refl
none_after (suc at) (z ∷ given) e = none_after at given e

one_more : (at : ℕ) → at + 1 ≡ suc at
one_more at = omega arith

from_place : (name : Name) (names given : List Name) (at : ℕ) → given_at (position_from (same_name name) at names) given name ≡ renaming names (drop at given) name
from_place name [] given at = refl
from_place name (x ∷ names) given at = by (drop at given) refl (same_name name x) refl (from_place name names given (at + 1))
  where
    by : (rest : List Name) → drop at given ≡ rest → (b : Bool) → same_name name x ≡ b
        → given_at (position_from (same_name name) (at + 1) names) given name ≡ renaming names (drop (at + 1) given) name → given_at (cond b (Some at) (position_from (same_name name) (at + 1) names)) given name ≡ renaming (x ∷ names) rest name
    by [] e true is further = none_at at given name e
    by [] e false is further = further ∙ ap (λ n. renaming names (drop n given) name) (one_more at) ∙ ap (λ r. renaming names r name) (none_after at given e) ∙ none_given names name
    by (y ∷ rest) e true is further = head_of at given y rest name e ∙ sym (ap (λ b. cond b y (renaming names rest name)) is)
    by (y ∷ rest) e false is further =
        further
        ∙ ap (λ n. renaming names (drop n given) name) (one_more at)
        ∙ ap (λ r. renaming names r name) (tail_of at given y rest e)
        ∙ sym (ap (λ b. cond b y (renaming names rest name)) is)

pub found : (r : Renaming) (names given : List Name) → ArePlaces r.places names → r.given ≡ given → (name : Name) → renamed r name ≡ renaming names given name
found r names given are is name =
    ap (λ place. given_at place r.given name) (are name ∙ behind_none name names)
    ∙ ap (λ g. given_at (position_from (same_name name) 0 names) g name) is
    ∙ from_place name names given 0
