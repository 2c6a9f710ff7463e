-- What is noted of the places of blocks.
use Rattle.std.proofs.Common.{◌≡◌, ◌∙◌, ◌&&◌, ◌||◌, ℕ, Bool, true, false, not, cond, List, [], ◌∷◌, map, Option, None, Some, refl, sym, ap}
use Rattle.std.specs.List.{list_any}
use Rattle.std.specs.Prelude.{is_some, nat_lt}
use Rattle.ir_core.specs.Sizes.{stepped}
use Rattle.ir_core.specs.Typing.{Index}
use Rattle.ir_types.specs.declared.ty.Ty.{Ty}
use Rattle.module_grammar.specs.declared.types.TypeText.{TypeText}
use Rattle.module_spelling.specs.Blocks.{Wanted, if_faultless, wants_along}
use Rattle.name_claims.specs.declared.claims.Fault.{Fault}
use Rattle.named_modules.specs.Faults.{Heads, first_of, type_faults}
use Rattle.named_modules.specs.Types.{type_of}
use Rattle.fault_walk.specs.Stated.{stated}
use Rattle.fault_walk.specs.Told.{is_faultless, is_one_large, is_stepped_large, noted, noted_large, told_more, with_place, with_place_if}
use Rattle.fault_walk.specs.declared.constants.Stated.{Stated}
use Rattle.fault_walk.specs.declared.told.Told.{Told}
use Rattle.fault_walk.proofs.Joined.{none_noted}

turned : (b : Bool) → not (not b) ≡ b
turned true = refl
turned false = refl

pub faultless : (fs : List Fault) (o : Option Fault) (none : Bool) → o ≡ noted fs None → is_some o ≡ not none → none ≡ is_faultless fs
faultless fs o none told is = sym (turned none) ∙ ap not (sym is ∙ ap is_some told) ∙ none_noted fs

-- ---- several at one place

either : (b : Bool) (p : ℕ) → cond b p p ≡ p
either true p = refl
either false p = refl

twice : (p : ℕ) (o : Option ℕ) → with_place p (with_place p o) ≡ with_place p o
twice p None = ap (λ q. Some q) (either (nat_lt p p) p)
twice p (Some q) = by (nat_lt p q) refl
  where
    by : (b : Bool) → nat_lt p q ≡ b → Some (cond (nat_lt p (cond b p q)) p (cond b p q)) ≡ Some (cond b p q)
    by true e = ap (λ r. Some r) (either (nat_lt p p) p)
    by false e = ap (λ c. Some (cond c p q)) e

one_or_other : (one other : Bool) (p : ℕ) (o : Option ℕ) → with_place_if other p (with_place_if one p o) ≡ with_place_if (one || other) p o
one_or_other false other p o = refl
one_or_other true false p o = refl
one_or_other true true p o = twice p o

abbrev at_place : ℕ → Ty × ℕ → Wanted
at_place p e = record { place = p; ty = e.0; count = e.1 }

at_one_place : (h : Heads) (p : ℕ) (ts : List Ty) (o : Option ℕ)
    → noted_large h (map (at_place p) (map (λ (t : Ty). (t, 1)) ts)) o ≡ with_place_if (list_any (is_one_large h.types) ts) p o
at_one_place h p [] o = refl
at_one_place h p (t ∷ ts) o =
    at_one_place h p ts (with_place_if (is_one_large h.types t) p o) ∙ one_or_other (is_one_large h.types t) (list_any (is_one_large h.types) ts) p o

if_noted : (h : Heads) (fs : List Fault) (ws : List Wanted) (large : Bool) (p : ℕ) (o : Option ℕ) → noted_large h ws o ≡ with_place_if large p o
    → noted_large h (if_faultless fs ws) o ≡ with_place_if (is_faultless fs && large) p o
if_noted h [] ws large p o all = all
if_noted h (f ∷ fs) ws large p o all = refl

along_noted : (h : Heads) (w : TypeText) (is : List Index) (o : Option ℕ)
    → noted_large h (wants_along h w is) o ≡ with_place_if (is_faultless (type_faults h w) && is_stepped_large h.types (type_of w) is) (first_of w) o
along_noted h w is o =
    if_noted h (type_faults h w) (map (at_place (first_of w)) (map (λ (t : Ty). (t, 1)) (stepped h.types (type_of w) is))) (is_stepped_large h.types (type_of w) is)
    (first_of w) o (at_one_place h (first_of w) (stepped h.types (type_of w) is) o)

told_is : {a b : Option Fault} {c d : Option ℕ} → a ≡ b → c ≡ d → (let one : Told = record { fault = a; large = c } in one) ≡ record { fault = b; large = d }
told_is p q = cc

-- as it is found
pub path_found : (h : Heads) (w : TypeText) (is : List Index) (of : Stated) (counts : Bool) (before now : Told) → of ≡ stated h w
    → counts ≡ (of.is_faultless && is_stepped_large h.types of.ty is) → now.fault ≡ before.fault → now.large ≡ with_place_if counts of.place before.large
    → now ≡ told_more h [] (wants_along h w is) before
path_found h w is of counts before now states counted fault large =
    told_is fault
    (large ∙ ap (λ b. with_place_if b of.place before.large) counted
    ∙ ap (λ (s : Stated). with_place_if (s.is_faultless && is_stepped_large h.types s.ty is) s.place before.large) states
    ∙ sym (along_noted h w is before.large))
