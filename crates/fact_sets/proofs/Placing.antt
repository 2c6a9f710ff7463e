-- Where registers of a list stand, as an index tells it.
use Rattle.std.proofs.Common.{◌≡◌, ◌∙◌, ℕ, Bool, true, false, ◌||◌, ◌+◌, ◌<◌, cond, List, [], ◌∷◌, length, drop, get_or, Option, None, Some, refl, sym, ap, arith}
use Rattle.std.proofs.lemmas.Iterator.Adapters.{position_from-zero}
use Rattle.std.proofs.lemmas.List.{at_drop_more, drop_all}
use Rattle.std.specs.List.{list_any, position, position_from}
use Rattle.ir_types.specs.declared.names.Name.{Name}
use Rattle.ir_core.specs.declared.expressions.Reg.{Reg}
use Rattle.ir_core.specs.declared.expressions.Reg.TheVariants.{Now, Old, Ghost}
use Rattle.ir_core.specs.Same.{same_reg}
use Rattle.ir_core.specs.NameIndexes.Places as names
use Rattle.erhl_assert.specs.Sides.{has_reg}
use Rattle.fact_sets.specs.declared.listed_registers.Places.{Places}
use Rattle.fact_sets.specs.Places.{place_in_kind, placed, ArePlaced}

pub none_placed : (places : Places) → names.ArePlaces places.current [] → names.ArePlaces places.former [] → names.ArePlaces places.ghosts [] → ArePlaced places []
unfolding ArePlaced
none_placed places a b c (Now x) = a x
none_placed places a b c (Old x) = b x
none_placed places a b c (Ghost x) = c x

module _ (old new : Places) (x : Name) (k : ℕ) where
  pub put_now : ((y : Name) → names.place_in new.current y ≡ names.placed x k (names.place_in old.current) y) → new.former ≡ old.former → new.ghosts ≡ old.ghosts
      → (other : Reg) → place_in_kind new other ≡ placed (Now x) k (place_in_kind old) other
  put_now put a b (Now y) = put y
  put_now put a b (Old y) = ap (λ p. names.place_in p y) a
  put_now put a b (Ghost y) = ap (λ p. names.place_in p y) b

  pub put_old : ((y : Name) → names.place_in new.former y ≡ names.placed x k (names.place_in old.former) y) → new.current ≡ old.current → new.ghosts ≡ old.ghosts
      → (other : Reg) → place_in_kind new other ≡ placed (Old x) k (place_in_kind old) other
  put_old put a b (Now y) = ap (λ p. names.place_in p y) a
  put_old put a b (Old y) = put y
  put_old put a b (Ghost y) = ap (λ p. names.place_in p y) b

  pub put_ghost : ((y : Name) → names.place_in new.ghosts y ≡ names.placed x k (names.place_in old.ghosts) y) → new.current ≡ old.current → new.former ≡ old.former
      → (other : Reg) → place_in_kind new other ≡ placed (Ghost x) k (place_in_kind old) other
  put_ghost put a b (Now y) = ap (λ p. names.place_in p y) a
  put_ghost put a b (Old y) = ap (λ p. names.place_in p y) b
  put_ghost put a b (Ghost y) = put y

-- ---- where a register stands first among those from a place on
abbrev pub place_behind : Reg → ℕ → List Reg → Option ℕ
place_behind r at rs = position_from (same_reg r) at (drop at rs)

pub behind_more : (r : Reg) (rs : List Reg) (at : ℕ) (d : Reg) → at < length rs → cond (same_reg r (get_or rs at d)) (Some at) (place_behind r (at + 1) rs) ≡ place_behind r at rs
behind_more r rs at d inside = sym (at_drop_more (position_from (same_reg r) at) rs at d inside)

pub behind_none : (r : Reg) (rs : List Reg) → position (same_reg r) rs ≡ place_behind r 0 rs
behind_none r rs = position_from-zero (same_reg r) rs

pub all_placed : (places : Places) (rs : List Reg) → ((r : Reg) → place_in_kind places r ≡ place_behind r 0 rs) → ArePlaced places rs
unfolding ArePlaced
all_placed places rs h r = h r ∙ sym (behind_none r rs)

pub from_there : (places : Places) (rs : List Reg) → ArePlaced places [] → (at : ℕ) → at ≡ length rs → (r : Reg) → place_in_kind places r ≡ place_behind r at rs
unfolding ArePlaced
from_there places rs none at e r = none r ∙ sym (ap (position_from (same_reg r) at) (drop_all at rs (omega (arith, e))))

pub is_placed : (places : Places) (rs : List Reg) (r : Reg) → ArePlaced places rs → place_in_kind places r ≡ position (same_reg r) rs
unfolding ArePlaced
is_placed places rs r are = are r

pub is_placed_now : (places : Places) (rs : List Reg) (x : Name) → ArePlaced places rs → names.place_in places.current x ≡ position (same_reg (Now x)) rs
unfolding ArePlaced
is_placed_now places rs x are = are (Now x)

-- ---- a register that has a place is there
there_from : {X : Type 0} (p : X → Bool) (i k : ℕ) (xs : List X) → position_from p i xs ≡ Some k → list_any p xs ≡ true
there_from p i k [] e = absurd (cc)
there_from p i k (x ∷ xs) e =
    (elim (p x) as (λ b. cond b (Some i) (position_from p (i + 1) xs) ≡ Some k → (b || list_any p xs) ≡ true) [
      | true ↦ λ h. refl
      | false ↦ λ h. there_from p (i + 1) k xs h
    ]) e

not_there_from : {X : Type 0} (p : X → Bool) (i : ℕ) (xs : List X) → position_from p i xs ≡ None → list_any p xs ≡ false
not_there_from p i [] e = refl
not_there_from p i (x ∷ xs) e =
    (elim (p x) as (λ b. cond b (Some i) (position_from p (i + 1) xs) ≡ None → (b || list_any p xs) ≡ false) [
      | true ↦ λ h. absurd (cc)
      | false ↦ λ h. not_there_from p (i + 1) xs h
    ]) e

pub found : (rs : List Reg) (r : Reg) (k : ℕ) → position (same_reg r) rs ≡ Some k → has_reg r rs ≡ true
found rs r k e = there_from (same_reg r) 0 k rs (sym (position_from-zero (same_reg r) rs) ∙ e)

pub not_found : (rs : List Reg) (r : Reg) → position (same_reg r) rs ≡ None → has_reg r rs ≡ false
not_found rs r e = not_there_from (same_reg r) 0 rs (sym (position_from-zero (same_reg r) rs) ∙ e)
