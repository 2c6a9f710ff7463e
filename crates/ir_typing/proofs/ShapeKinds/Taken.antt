-- Where names stand that are taken in an order, each at the end.
use Rattle.std.proofs.Common.{◌≡◌, ◌∙◌, ◌+◌, ◌||◌, ℕ, suc, Bool, true, false, cond, List, [], ◌∷◌, ◌++◌, length, Option, None, Some, refl, sym, ap, arith, if◌then◌else◌}
use Rattle.std.proofs.lemmas.Iterator.Adapters.{position_from-zero}
use Rattle.std.proofs.lemmas.List.{map-append}
use Rattle.std.specs.Borrow.{Bor}
use Rattle.std.specs.List.{list_any, position_from}
use Rattle.std.specs.Option.{is_some, option_or}
use Rattle.ir_types.specs.declared.names.Name.{Name}
use Rattle.ir_types.specs.NameLaws.{same_name_true}
use Rattle.ir_types.specs.Same.{same_name}
use Rattle.ir_core.specs.NameIndexes.Among.{is_among, place_among}
use Rattle.ir_typing.specs.ShapeKinds.Hashed.{ArePlaces}
use Rattle.ir_typing.specs.ShapeKinds.Names.{named}
use Rattle.ir_typing.proofs.ShapeKinds.Entries.{Puts}

some_from : (p : Name → Bool) (at : ℕ) (names : List Name) → is_some (position_from p at names) ≡ list_any p names
some_from p at [] = refl
some_from p at (x ∷ names) = by (p x) (some_from p (at + 1) names)
  where
    by : (b : Bool) → is_some (position_from p (at + 1) names) ≡ list_any p names → is_some (if b then Some at else position_from p (at + 1) names) ≡ (b || list_any p names)
    by true more = refl
    by false more = more

-- a name has a place where it is one of them
pub there_is : (name : Name) (names : List Name) → is_some (place_among name names) ≡ is_among name names
there_is name names = ap is_some (position_from-zero (same_name name) names) ∙ some_from (same_name name) 0 names

from_push : (p : Name → Bool) (at : ℕ) (names : List Name) (y : Name)
    → position_from p at (names ++ y ∷ []) ≡ option_or (position_from p at names) (cond (p y) (Some (at + length names)) None)
from_push p at [] y = ap (λ k. cond (p y) (Some k) None) (omega arith)
from_push p at (x ∷ names) y = by (p x) (from_push p (at + 1) names y ∙ ap (λ k. option_or (position_from p (at + 1) names) (cond (p y) (Some k) None)) (omega arith))
  where
    by : (b : Bool) → position_from p (at + 1) (names ++ y ∷ []) ≡ option_or (position_from p (at + 1) names) (cond (p y) (Some (at + length (x ∷ names))) None)
        → (if b then Some at else position_from p (at + 1) (names ++ y ∷ [])) ≡ option_or (if b then Some at else position_from p (at + 1) names) (cond (p y) (Some (at + length (x ∷ names))) None)
    by true more = refl
    by false more = more

place_push : (name : Name) (names : List Name) (y : Name) → place_among name (names ++ y ∷ []) ≡ option_or (place_among name names) (cond (same_name name y) (Some (length names)) None)
place_push name names y =
    position_from-zero (same_name name) (names ++ y ∷ [])
    ∙ from_push (same_name name) 0 names y
    ∙ ap (λ k. option_or (position_from (same_name name) 0 names) (cond (same_name name y) (Some k) None)) (omega arith)
    ∙ sym (ap (λ o. option_or o (cond (same_name name y) (Some (length names)) None)) (position_from-zero (same_name name) names))

no_place : (o : Option ℕ) → is_some o ≡ false → o ≡ None
no_place None e = refl
no_place (Some k) e = absurd (cc)

as_many : (names : List (Bor Name)) → length (named names) ≡ length names
as_many [] = refl
as_many (name ∷ names) = ap suc (as_many names)

-- a name more at the end, which wasn't there
pub taken : (old new : List (Bor Name × ℕ)) (names news : List (Bor Name)) (name : Bor Name) (place : ℕ) → ArePlaces (named names) old → is_among name.now (named names) ≡ false
    → place ≡ length names → news ≡ names ++ name ∷ [] → Puts old new name place → ArePlaces (named news) new
taken old new names news name place are none is put puts n =
    puts n
    ∙ ap (cond (same_name n name.now) (Some place)) (are n)
    ∙ go (same_name n name.now) refl
    ∙ sym (place_push n (named names) name.now)
    ∙ sym (ap (place_among n) (ap named put ∙ map-append (λ (key : Bor Name). key.now) names (name ∷ [])))
  where
    go : (b : Bool) → same_name n name.now ≡ b → cond b (Some place) (place_among n (named names)) ≡ option_or (place_among n (named names)) (cond b (Some (length (named names))) None)
    go false e = or_nothing (place_among n (named names))
      where
        or_nothing : (o : Option ℕ) → o ≡ option_or o None
        or_nothing None = refl
        or_nothing (Some k) = refl
    go true e =
        let nowhere : place_among n (named names) ≡ None =
        ap (λ m. place_among m (named names)) (same_name_true n name.now e) ∙ no_place (place_among name.now (named names)) (there_is name.now (named names) ∙ none) in
        ap Some (is ∙ sym (as_many names)) ∙ sym (ap (λ o. option_or o (Some (length (named names)))) nowhere)
