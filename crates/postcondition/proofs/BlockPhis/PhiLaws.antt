-- The phi that sets a register, by its place among the names.
use Rattle.std.proofs.Common.{◌≡◌, ◌∙◌, ℕ, suc, ◌+◌, ◌≤◌, Bool, true, false, ◌||◌, cond, not, nat_lt, List, [], ◌∷◌, map, length, None, Some, refl, sym, ap, ap₂, arith}
use Rattle.std.specs.Prelude.{slice_get}
use Rattle.std.specs.List.{list_any, position_or_len}
use Rattle.std.proofs.lemmas.List.Folds.{find_at}
use Rattle.std.proofs.lemmas.Option.{slice_get_past}
use Rattle.std.proofs.lemmas.Bool.Decides.{nat_tests}
use Rattle.ir_types.specs.declared.names.Name.{Name}
use Rattle.ir_core.specs.declared.functions.Phi.{Phi}
use Rattle.ir_core.specs.declared.expressions.Reg.TheVariants.{Now}
use Rattle.ir_types.specs.Same.{same_name}
use Rattle.ir_types.specs.NameLaws.{same_name_true, same_name_refl}
use Rattle.ir_core.specs.NameIndexes.Among.{place_among}
use Rattle.erhl_assert.specs.Edges.{sets, phi_setting, is_of_phi}

both : (a b : Bool) → (a ≡ true → b ≡ true) → (b ≡ true → a ≡ true) → a ≡ b
both true b h k = sym (h refl)
both false true h k = k refl
both false false h k = refl

turned : (x y : Name) → same_name x y ≡ true → same_name y x ≡ true
turned x y h = ap (λ (z : Name). same_name z x) (sym (same_name_true x y h)) ∙ same_name_refl x

either_way : (x y : Name) → same_name x y ≡ same_name y x
either_way x y = both (same_name x y) (same_name y x) (turned x y) (turned y x)

one_place : (x : Name) (ps : List Phi) → position_or_len (same_name x) (map (λ (p : Phi). p.name) ps) ≡ position_or_len (sets x) ps
one_place x [] = refl
one_place x (p ∷ ps) = ap₂ (λ b (n : ℕ). cond (not b) (1 + n) 0) (either_way x p.name) (one_place x ps)

as_many : (ps : List Phi) → length (map (λ (p : Phi). p.name) ps) ≡ length ps
as_many [] = refl
as_many (p ∷ ps) = ap suc (as_many ps)

some_place : (b : Bool) (i j : ℕ) → cond b (Some i) None ≡ Some j → i ≡ j
some_place true i j h = cc
some_place false i j h = absurd (cc)

no_place : (b : Bool) (i : ℕ) → cond b (Some i) None ≡ None → b ≡ false
no_place true i h = absurd (cc)
no_place false i h = refl

module _ (x : Name) (names : List Name) (ps : List Phi) where
  pub set_there : names ≡ map (λ (p : Phi). p.name) ps → (place : ℕ) → place_among x names ≡ Some place → phi_setting x ps ≡ slice_get ps place
  set_there e place h =
      find_at (sets x) ps
      ∙ ap (slice_get ps) (sym (one_place x ps) ∙ ap (position_or_len (same_name x)) (sym e) ∙ some_place (nat_lt (position_or_len (same_name x) names) (length names)) (position_or_len (same_name x) names) place h)

  pub set_past : names ≡ map (λ (p : Phi). p.name) ps → place_among x names ≡ None → phi_setting x ps ≡ None
  set_past e h =
      let past : nat_lt (position_or_len (same_name x) names) (length names) ≡ false = no_place (nat_lt (position_or_len (same_name x) names) (length names)) (position_or_len (same_name x) names) h in
      let place : position_or_len (same_name x) names ≡ position_or_len (sets x) ps = ap (position_or_len (same_name x)) e ∙ one_place x ps in
      let count : length names ≡ length ps = ap length e ∙ as_many ps in
      let end : length ps ≤ position_or_len (sets x) ps = grind (arith, nat_tests) in
      find_at (sets x) ps ∙ slice_get_past ps (position_or_len (sets x) ps) end

pub is_set : (x : Name) (ps : List Phi) (p : Phi) → Some p ≡ phi_setting x ps → is_of_phi ps (Now x) ≡ true
is_set x [] p h = absurd (cc)
is_set x (q ∷ ps) p h =
    (elim (sets x q) as (λ b. Some p ≡ cond b (Some q) (phi_setting x ps) → (b || list_any (sets x) ps) ≡ true) [
      | true ↦ λ e. refl
      | false ↦ λ e. is_set x ps p e
    ]) h

pub isnt_set : (x : Name) (ps : List Phi) → None ≡ phi_setting x ps → is_of_phi ps (Now x) ≡ false
isnt_set x [] h = refl
isnt_set x (q ∷ ps) h =
    (elim (sets x q) as (λ b. None ≡ cond b (Some q) (phi_setting x ps) → (b || list_any (sets x) ps) ≡ false) [
      | true ↦ λ e. absurd (cc)
      | false ↦ λ e. isnt_set x ps e
    ]) h
