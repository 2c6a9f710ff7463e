-- The registers that may differ behind phis.
use Rattle.std.proofs.Common.{◌≡◌, ◌∙◌, Bool, true, false, ◌||◌, ◌&&◌, cond, not, filter, List, [], ◌∷◌, ◌++◌, append_assoc, Option, Some, refl, sym, ap}
use Rattle.std.proofs.lemmas.List.Elements.{filter_agree}
use Rattle.ir_types.specs.declared.names.Name.{Name}
use Rattle.ir_types.specs.NameLaws.{same_name_true, same_name_refl}
use Rattle.ir_types.specs.Same.{same_name}
use Rattle.ir_core.specs.declared.functions.Phi.{Phi}
use Rattle.ir_core.specs.declared.expressions.Reg.{Reg}
use Rattle.ir_core.specs.declared.expressions.Reg.TheVariants.{Now, Old, Ghost}
use Rattle.ir_core.specs.Same.{same_reg}
use Rattle.ir_core.proofs.SameLaws.{same_reg_true, same_reg_refl}
use Rattle.erhl_assert.specs.declared.facts.Assertion.{Assertion}
use Rattle.erhl_assert.specs.Edges.{Edge, sets, is_alike, old_too, phi_registers, phi_setting, phis_match, diff_over}
use Rattle.erhl_assert.specs.Postcondition.{without_reg}
use Rattle.erhl_assert.specs.Sides.{has_reg}
use Rattle.postcondition.specs.EdgeCrossing.Crossing.{stays_apart}

append_none : (rs : List Reg) → rs ++ [] ≡ rs
append_none [] = refl
append_none (r ∷ rs) = ap (λ xs. r ∷ xs) (append_none rs)

filter_append : (q : Reg → Bool) (rs ss : List Reg) → filter q (rs ++ ss) ≡ filter q rs ++ filter q ss
filter_append q [] ss = refl
filter_append q (r ∷ rs) ss =
    elim (q r) as (λ b. cond b (r ∷ filter q (rs ++ ss)) (filter q (rs ++ ss)) ≡ cond b (r ∷ filter q rs) (filter q rs) ++ filter q ss) [
      | true ↦ ap (λ xs. r ∷ xs) (filter_append q rs ss)
      | false ↦ filter_append q rs ss
    ]

filter_both : (p q : Reg → Bool) (xs : List Reg) → filter p (filter q xs) ≡ filter (λ x. q x && p x) xs
filter_both p q [] = refl
filter_both p q (x ∷ xs) =
    elim (q x) as (λ b. filter p (cond b (x ∷ filter q xs) (filter q xs)) ≡ cond (b && p x) (x ∷ filter (λ y. q y && p y) xs) (filter (λ y. q y && p y) xs)) [
      | true ↦ ap (λ (ys : List Reg). cond (p x) (x ∷ ys) ys) (filter_both p q xs)
      | false ↦ filter_both p q xs
    ]

all_pass : (p : Reg → Bool) → ((r : Reg) → p r ≡ true) → (rs : List Reg) → filter p rs ≡ rs
all_pass p h [] = refl
all_pass p h (r ∷ rs) = ap (λ b. cond b (r ∷ filter p rs) (filter p rs)) (h r) ∙ ap (λ (ss : List Reg). r ∷ ss) (all_pass p h rs)

and_false : (b : Bool) → (b && false) ≡ false
and_false true = refl
and_false false = refl

or_true : (a b : Bool) → b ≡ true → (a || b) ≡ true
or_true true b e = refl
or_true false b e = e

module _ (known : Assertion) (e : Edge) where
  abbrev pub apart : Reg → Bool
  apart r = not (is_alike known e r)

  module _ (r : Reg) (diff : List Reg) where
    pub is_set : is_alike known e r ≡ false → diff ++ r ∷ [] ≡ diff ++ filter apart (r ∷ [])
    is_set k = ap (λ b. diff ++ cond (not b) (r ∷ []) []) (sym k)

    pub alike_goes_too : is_alike known e r ≡ true → diff ≡ diff ++ filter apart (r ∷ [])
    alike_goes_too k = sym (append_none diff) ∙ ap (λ b. diff ++ cond (not b) (r ∷ []) []) (sym k)

  pub set_on : (p : Phi) (ps : List Phi) (diff after all : List Reg) → after ≡ diff ++ filter apart (Now p.name ∷ []) → diff ++ filter apart (phi_registers (p ∷ ps)) ≡ all
      → after ++ filter apart (phi_registers ps) ≡ all
  set_on p ps diff after all h so_far =
      ap (λ xs. xs ++ filter apart (phi_registers ps)) h
      ∙ append_assoc diff (filter apart (Now p.name ∷ [])) (filter apart (phi_registers ps))
      ∙ ap (λ xs. diff ++ xs) (sym (filter_append apart (Now p.name ∷ []) (phi_registers ps)))
      ∙ so_far

  abbrev sa : List Reg → Reg → Bool
  sa rs r = stays_apart known e rs r

  not_same : (x : Name) (r : Reg) → same_reg (Now x) r ≡ false → same_reg r (Now x) ≡ false
  not_same x r h = (elim (same_reg r (Now x)) as (λ b. same_reg r (Now x) ≡ b → b ≡ false) [
    | true ↦ λ k. let there : same_reg (Now x) r ≡ true = ap (same_reg (Now x)) (same_reg_true r (Now x) k) ∙ same_reg_refl (Now x) in absurd (cc)
    | false ↦ λ k. refl
  ]) refl

  -- a phi's register that is set alike is taken out
  module _ (x : Name) (diff : List Reg) where
    pub one_taken : is_alike known e (Now x) ≡ true → without_reg (Now x) diff ≡ filter (stays_apart known e (Now x ∷ [])) diff
    one_taken h = filter_agree (λ r. not (same_reg (Now x) r)) (sa (Now x ∷ [])) here diff
      where
        here : (r : Reg) → not (same_reg (Now x) r) ≡ sa (Now x ∷ []) r
        here r = (elim (same_reg (Now x) r) as (λ b. same_reg (Now x) r ≡ b → not b ≡ not (is_alike known e r && (same_reg r (Now x) || false))) [
          | true ↦ λ k.
              sym (ap (λ (s : Reg). not (is_alike known e s && (same_reg s (Now x) || false))) (sym (same_reg_true (Now x) r k))
              ∙ ap (λ b. not (b && (same_reg (Now x) (Now x) || false))) h
              ∙ ap (λ b. not (b || false)) (same_reg_refl (Now x)))
          | false ↦ λ k. sym (ap (λ b. not (is_alike known e r && (b || false))) (not_same x r k) ∙ ap not (and_false (is_alike known e r)))
        ]) refl

    pub none_taken : is_alike known e (Now x) ≡ false → diff ≡ filter (stays_apart known e (Now x ∷ [])) diff
    none_taken h = sym (all_pass (sa (Now x ∷ [])) here diff)
      where
        here : (r : Reg) → sa (Now x ∷ []) r ≡ true
        here r = (elim (same_reg r (Now x)) as (λ b. same_reg r (Now x) ≡ b → not (is_alike known e r && (b || false)) ≡ true) [
          | true ↦ λ k. ap (λ b. not (b && true)) (ap (is_alike known e) (same_reg_true r (Now x) k) ∙ h)
          | false ↦ λ k. ap not (and_false (is_alike known e r))
        ]) refl

  pub nothing_taken : (diff all : List Reg) → filter (stays_apart known e []) diff ≡ all → diff ≡ all
  nothing_taken diff all h = sym (all_pass (sa []) (λ r. ap not (and_false (is_alike known e r))) diff) ∙ h

  both_apart : (a b c : Bool) → (not (a && (b || false)) && not (a && c)) ≡ not (a && (b || c))
  both_apart true true c = refl
  both_apart true false c = refl
  both_apart false b c = refl

  pub taken_on : (p : Phi) (ps : List Phi) (diff after all : List Reg) → after ≡ filter (stays_apart known e (Now p.name ∷ [])) diff → filter (stays_apart known e (phi_registers (p ∷ ps))) diff ≡ all
      → filter (stays_apart known e (phi_registers ps)) after ≡ all
  taken_on p ps diff after all h so_far =
      ap (filter (sa (phi_registers ps))) h
      ∙ filter_both (sa (phi_registers ps)) (sa (Now p.name ∷ [])) diff
      ∙ filter_agree (λ r. sa (Now p.name ∷ []) r && sa (phi_registers ps) r) (sa (phi_registers (p ∷ ps)))
      (λ r. both_apart (is_alike known e r) (same_reg r (Now p.name)) (has_reg r (phi_registers ps))) diff
      ∙ so_far

  set_somewhere : (x : Name) (q : Option Phi) (ps : List Phi) → phis_match known e.from (phi_setting x ps) q ≡ true → has_reg (Now x) (phi_registers ps) ≡ true
  set_somewhere x q [] h = absurd (cc)
  set_somewhere x q (p ∷ ps) h =
      (elim (sets x p) as (λ b. sets x p ≡ b → phis_match known e.from (cond b (Some p) (phi_setting x ps)) q ≡ true → (same_name x p.name || has_reg (Now x) (phi_registers ps)) ≡ true) [
        | true ↦ λ k m. ap (λ b. b || has_reg (Now x) (phi_registers ps)) (ap (same_name x) (same_name_true p.name x k) ∙ same_name_refl x)
        | false ↦ λ k m. or_true (same_name x p.name) (has_reg (Now x) (phi_registers ps)) (set_somewhere x q ps m)
      ]) refl h

  is_set_too : (r : Reg) → is_alike known e r ≡ true → has_reg r (phi_registers e.source) ≡ true
  is_set_too (Now x) h = set_somewhere x (phi_setting x e.target) e.source h
  is_set_too (Old x) h = absurd (cc)
  is_set_too (Ghost x) h = absurd (cc)

  apart_of_source : (r : Reg) → sa (phi_registers e.source) r ≡ apart r
  apart_of_source r = (elim (is_alike known e r) as (λ b. is_alike known e r ≡ b → not (b && has_reg r (phi_registers e.source)) ≡ not b) [
    | true ↦ λ h. ap not (is_set_too r h)
    | false ↦ λ h. refl
  ]) refl

  pub all_added : (one two three four : List Reg) → one ≡ old_too known.diff → two ≡ filter (stays_apart known e (phi_registers e.source)) one
      → three ≡ two ++ filter apart (phi_registers e.source) → four ≡ three ++ filter apart (phi_registers e.target) → four ≡ diff_over e known
  all_added one two three four a b c d =
      let olds = old_too known.diff in
      let cs = phi_registers e.source in
      let ds = phi_registers e.target in
      d
      ∙ ap (λ xs. xs ++ filter apart ds) (c ∙ ap (λ xs. xs ++ filter apart cs) (b ∙ filter_agree (sa cs) apart apart_of_source one ∙ ap (filter apart) a))
      ∙ append_assoc (filter apart olds) (filter apart cs) (filter apart ds)
      ∙ sym (filter_append apart olds (cs ++ ds) ∙ ap (λ xs. filter apart olds ++ xs) (filter_append apart cs ds))
