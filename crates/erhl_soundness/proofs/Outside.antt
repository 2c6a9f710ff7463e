-- Registers outside of lists that others enter or leave.
use Rattle.std.proofs.Common.{◌≡◌, Bool, true, false, ◌||◌, not, List, [], ◌∷◌, ◌++◌, refl, sym, ap, ◌∙◌, subst, ⊎_elim}
use Rattle.std.specs.Prelude.{filter}
use Rattle.std.proofs.lemmas.Bool.{false≢true, false_from_ne_true, or_parts, or_from, cases_Bool, not_from_false, cond-true, cond-false}
use Rattle.std.proofs.lemmas.List.Folds.{list_any-append}
use Rattle.ir_core.specs.declared.expressions.Reg.{Reg}
use Rattle.ir_core.specs.Same.{same_reg}
use Rattle.ir_core.proofs.SameLaws.{same_reg_true, same_reg_refl}
use Rattle.erhl_assert.specs.Sides.{has_reg}
use Rattle.erhl_assert.specs.Postcondition.{without_reg, with_reg}

pub same_reg_apart : (a b : Reg) → same_reg a b ≡ false → same_reg b a ≡ false
same_reg_apart a b h =
    false_from_ne_true (same_reg b a)
    (λ e. let same = same_reg_true b a e in false≢true (sym h ∙ ap (same_reg a) same ∙ same_reg_refl a))

-- a register outside of the list with r is outside of the list, and is another
pub outside_with : (q r : Reg) (rs : List Reg) → has_reg q (with_reg r rs) ≡ false → (has_reg q rs ≡ false) × (same_reg r q ≡ false)
outside_with q r rs h = ⊎_elim
    (λ e.
    let out : has_reg q rs ≡ false = sym (ap (has_reg q) (cond-true (has_reg r rs) rs (rs ++ r ∷ []) e)) ∙ h in (
      out,
      false_from_ne_true (same_reg r q)
          (λ s. false≢true (sym out ∙ subst (λ x. has_reg x rs ≡ true) (same_reg_true r q s) e)),
    ))
    (λ e.
    let all : has_reg q (rs ++ r ∷ []) ≡ false = sym (ap (has_reg q) (cond-false (has_reg r rs) rs (rs ++ r ∷ []) e)) ∙ h in
    let parts = or_parts (has_reg q rs) (has_reg q (r ∷ [])) (sym (list_any-append (same_reg q) rs (r ∷ [])) ∙ all) in
    (parts.0, same_reg_apart q r (or_parts (same_reg q r) false parts.1).0))
    (cases_Bool (has_reg r rs))

-- a register that would pass a filter, outside of what it leaves, is outside of the list
pub outside_filter : (p : Reg → Bool) (r : Reg) (rs : List Reg) → p r ≡ true → has_reg r (filter p rs) ≡ false → has_reg r rs ≡ false
outside_filter p r [] h out = refl
outside_filter p r (s ∷ rs) h out = ⊎_elim
    (λ e.
    let kept : (same_reg r s || has_reg r (filter p rs)) ≡ false = sym (ap (has_reg r) (cond-true (p s) (s ∷ filter p rs) (filter p rs) e)) ∙ out in
    let parts = or_parts (same_reg r s) (has_reg r (filter p rs)) kept in
    or_from (same_reg r s) (has_reg r rs) parts.0 (outside_filter p r rs h parts.1))
    (λ e.
    let gone : has_reg r (filter p rs) ≡ false = sym (ap (has_reg r) (cond-false (p s) (s ∷ filter p rs) (filter p rs) e)) ∙ out in
    or_from (same_reg r s) (has_reg r rs) (other s e) (outside_filter p r rs h gone))
    (cases_Bool (p s))
  where
    other : (s : Reg) → p s ≡ false → same_reg r s ≡ false
    other s e = ⊎_elim (λ t. absurd (false≢true (sym e ∙ ap p (sym (same_reg_true r s t)) ∙ h))) (λ t. t) (cases_Bool (same_reg r s))

-- another register than r outside of the list without r is outside of the list
pub outside_without : (q r : Reg) (rs : List Reg) → same_reg r q ≡ false → has_reg q (without_reg r rs) ≡ false → has_reg q rs ≡ false
outside_without q r rs other out = outside_filter (λ s. not (same_reg r s)) q rs (not_from_false (same_reg r q) other) out
