-- What phis take away: what names their registers, and that what they are given is unique.
use Rattle.std.proofs.Common.{◌≡◌, ◌∙◌, ℕ, Bool, true, false, ◌||◌, cond, not, filter, List, [], ◌∷◌, Option, None, Some, refl, sym, ap, ap₂}
use Rattle.std.specs.Prelude.{is_some}
use Rattle.ir_types.specs.declared.names.Name.{Name}
use Rattle.ir_types.specs.NameLaws.{name_equivalence}
use Rattle.ir_types.specs.Same.{same_name}
use Rattle.ir_core.specs.declared.operands.Const.{Const}
use Rattle.ir_core.specs.declared.operands.Atom.{Atom}
use Rattle.ir_core.specs.declared.operands.Atom.TheVariants as atom
use Rattle.ir_core.specs.declared.functions.Entry.{Entry}
use Rattle.ir_core.specs.declared.functions.Phi.{Phi}
use Rattle.ir_core.specs.declared.expressions.Reg.TheVariants.{Now, Old, Ghost}
use Rattle.ir_core.specs.declared.name_index.places.PlaceIndex.{PlaceIndex}
use Rattle.ir_core.specs.NameIndexes.Places.{ArePlaces, place_in, placed}
use Rattle.ir_machine.specs.Machine.{entry_from}
use Rattle.erhl_assert.specs.declared.facts.Fact.{Fact}
use Rattle.erhl_assert.specs.declared.facts.Fact.TheVariants.{Unique}
use Rattle.erhl_assert.specs.Facts.{fact_has, without}
use Rattle.erhl_assert.specs.Kills.{all_killed, is_unique_of, unique_of}
use Rattle.erhl_assert.specs.Edges.{entry_kill, is_of_phi, past_phis, phi_kills}
use Rattle.fact_sets.specs.ErhlSides.Joining.{says_unique}
use Rattle.postcondition.specs.EdgeCrossing.Crossing.{has_given, is_of_atom, is_of_entry, is_shared, is_taken, AreGiven}
use Rattle.postcondition.proofs.LineFacts.{killed_then, not_it}

-- a fact that is of no register of now that it is unique
module _ (f : Fact) (apart : (x : Name) → is_unique_of (Now x) f ≡ false) where
  not_of_atom : (a : Atom Name) → is_of_atom f a ≡ false
  not_of_atom (atom.Constant c) = refl
  not_of_atom (atom.Register x) = apart x

  not_of_entry : (o : Option Entry) → is_of_entry f o ≡ false
  not_of_entry None = refl
  not_of_entry (Some e) = not_of_atom e.value

  of_none : (from : Name) (ps : List Phi) → is_shared from ps f ≡ false
  of_none from [] = refl
  of_none from (p ∷ ps) = ap₂ (λ (a b : Bool). a || b) (not_of_entry (entry_from from p.entries)) (of_none from ps)

pub not_shared : (f : Fact) → says_unique f ≡ false → (from : Name) (ps : List Phi) → is_shared from ps f ≡ false
not_shared f h from ps = of_none f (λ x. not_it (Now x) f h) from ps

pub old_not_shared : (x : Name) (from : Name) (ps : List Phi) → is_shared from ps (Unique (Old x)) ≡ false
old_not_shared x from ps = of_none (Unique (Old x)) (λ y. refl) from ps

pub ghost_not_shared : (x : Name) (from : Name) (ps : List Phi) → is_shared from ps (Unique (Ghost x)) ≡ false
ghost_not_shared x from ps = of_none (Unique (Ghost x)) (λ y. refl) from ps

-- ---- registers that phis are given
found_or : (rest : Option ℕ) (b : Bool) → is_some (cond b (Some 0) rest) ≡ (is_some rest || b)
found_or None true = refl
found_or None false = refl
found_or (Some k) true = refl
found_or (Some k) false = refl

or_none : (b : Bool) → (b || false) ≡ b
or_none true = refl
or_none false = refl

or_more : (a b c : Bool) → ((a || b) || c) ≡ (a || (b || c))
or_more true b c = refl
or_more false b c = refl

pub one_given : (old new : PlaceIndex) (x : Name) (e : Entry) (o : Option Entry) → ((y : Name) → place_in new y ≡ placed x 0 (place_in old) y) → atom.Register x ≡ e.value → Some e ≡ o
    → (y : Name) → has_given new y ≡ (has_given old y || is_of_entry (Unique (Now y)) o)
one_given old new x e o put reads is y =
    ap is_some (put y)
    ∙ found_or (place_in old y) (same_name y x)
    ∙ ap (λ b. has_given old y || b) (name_equivalence.symm y x ∙ ap (is_of_atom (Unique (Now y))) reads ∙ ap (is_of_entry (Unique (Now y))) is)

pub constant_given : (given : PlaceIndex) (c : Const) (e : Entry) (o : Option Entry) → atom.Constant c ≡ e.value → Some e ≡ o
    → (y : Name) → has_given given y ≡ (has_given given y || is_of_entry (Unique (Now y)) o)
constant_given given c e o reads is y =
    sym (ap (λ b. has_given given y || b) (sym (ap (is_of_atom (Unique (Now y))) reads ∙ ap (is_of_entry (Unique (Now y))) is)) ∙ or_none (has_given given y))

pub nothing_given : (given : PlaceIndex) (o : Option Entry) → None ≡ o → (y : Name) → has_given given y ≡ (has_given given y || is_of_entry (Unique (Now y)) o)
nothing_given given o is y = sym (ap (λ b. has_given given y || b) (sym (ap (is_of_entry (Unique (Now y))) is)) ∙ or_none (has_given given y))

module _ (from : Name) (ps : List Phi) where
  -- what is kept, with what the others are given, is what all are given
  abbrev pub AreGivenWith : PlaceIndex → List Phi → Type 0
  AreGivenWith given rest = (x : Name) → (has_given given x || is_shared from rest (Unique (Now x))) ≡ is_shared from ps (Unique (Now x))

  pub none_yet : (given : PlaceIndex) → ArePlaces given [] → AreGivenWith given ps
  none_yet given none x = ap (λ o. is_some o || is_shared from ps (Unique (Now x))) (none x)

  pub one_more : (old new : PlaceIndex) (p : Phi) (rest : List Phi) → AreGivenWith old (p ∷ rest)
      → ((x : Name) → has_given new x ≡ (has_given old x || is_of_entry (Unique (Now x)) (entry_from from p.entries))) → AreGivenWith new rest
  one_more old new p rest so_far more x =
      ap (λ b. b || is_shared from rest (Unique (Now x))) (more x)
      ∙ or_more (has_given old x) (is_of_entry (Unique (Now x)) (entry_from from p.entries)) (is_shared from rest (Unique (Now x)))
      ∙ so_far x

  pub all_given : (given : PlaceIndex) → AreGivenWith given [] → AreGiven given from ps
  unfolding AreGiven
  all_given given so_far x = sym (or_none (has_given given x)) ∙ so_far x

  module _ (given : PlaceIndex) (are : AreGiven given from ps) (x : Name) where
    pub found_given : (k : ℕ) → Some k ≡ place_in given x → true ≡ is_shared from ps (Unique (Now x))
    unfolding AreGiven
    found_given k e = ap is_some e ∙ are x

    pub not_found_given : None ≡ place_in given x → false ≡ is_shared from ps (Unique (Now x))
    unfolding AreGiven
    not_found_given e = ap is_some e ∙ are x

-- ---- what is left
none_out : (fs : List Fact) → fs ≡ filter (λ f. true) fs
none_out [] = refl
none_out (f ∷ fs) = ap (λ gs. f ∷ gs) (none_out fs)

both_out : (p q : Fact → Bool) (fs : List Fact) → filter (λ f. not (q f)) (filter (λ f. not (p f)) fs) ≡ filter (λ f. not (p f || q f)) fs
both_out p q [] = refl
both_out p q (f ∷ fs) =
    elim (p f) as (λ b. filter (λ g. not (q g)) (cond (not b) (f ∷ filter (λ g. not (p g)) fs) (filter (λ g. not (p g)) fs))
    ≡ cond (not (b || q f)) (f ∷ filter (λ g. not (p g || q g)) fs) (filter (λ g. not (p g || q g)) fs)) [
      | true ↦ both_out p q fs
      | false ↦ ap (λ gs. cond (not (q f)) (f ∷ gs) gs) (both_out p q fs)
    ]

atom_out : (e : Entry) (a : Atom Name) (fs : List Fact) → all_killed (unique_of a) fs ≡ filter (λ f. not (is_of_atom f a)) fs
atom_out e (atom.Constant c) fs = none_out fs
atom_out e (atom.Register x) fs = refl

entry_out : (o : Option Entry) (fs : List Fact) → all_killed (entry_kill o) fs ≡ filter (λ f. not (is_of_entry f o)) fs
entry_out None fs = none_out fs
entry_out (Some e) fs = atom_out e e.value fs

phis_out : (from : Name) (ps : List Phi) (fs : List Fact) → all_killed (phi_kills from ps) fs ≡ filter (λ f. not (is_shared from ps f)) fs
phis_out from [] fs = none_out fs
phis_out from (p ∷ ps) fs =
    let o : Option Entry = entry_from from p.entries in
    killed_then (entry_kill o) (phi_kills from ps) fs
    ∙ ap (all_killed (phi_kills from ps)) (entry_out o fs)
    ∙ phis_out from ps (filter (λ f. not (is_of_entry f o)) fs)
    ∙ both_out (λ f. is_of_entry f o) (is_shared from ps) fs

pub taken_out : (from : Name) (ps : List Phi) (fs : List Fact) → past_phis from ps fs ≡ filter (λ f. not (is_taken from ps f)) fs
taken_out from ps fs = phis_out from ps (without (is_of_phi ps) fs) ∙ both_out (fact_has (is_of_phi ps)) (is_shared from ps) fs
