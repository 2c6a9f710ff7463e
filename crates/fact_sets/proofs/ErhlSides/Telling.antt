-- The first register that may differ, and a register that is new.
use Rattle.std.proofs.Common.{◌≡◌, ◌∙◌, Bool, true, false, ◌||◌, cond, filter, ℕ, ◌+◌, ◌-◌, ◌<◌, suc, List, [], ◌∷◌, length, drop, drop-cons, get_or, Option, None, Some, refl, sym, ap, ap₂, arith}
use Rattle.std.specs.List.{cons_option, filter_map, list_any}
use Rattle.std.specs.Prelude.{find}
use Rattle.ir_core.specs.declared.operands.Atom.{Atom}
use Rattle.ir_core.specs.declared.operands.Operand.{Operand}
use Rattle.ir_core.specs.declared.operands.Atom.TheVariants as atom
use Rattle.ir_core.specs.declared.expressions.Reg.{Reg}
use Rattle.erhl_assert.specs.declared.facts.Assertion.{Assertion}
use Rattle.erhl_assert.specs.declared.facts.Side.TheVariants.{Src, Tgt}
use Rattle.erhl_assert.specs.declared.fact_set.Kill.TheVariants.{Naming}
use Rattle.erhl_assert.specs.Facts.{on_side}
use Rattle.erhl_assert.specs.Kills.{killed}
use Rattle.erhl_assert.specs.Sides.{has_reg}
use Rattle.erhl_assert.specs.Postcondition.{without_reg}
use Rattle.erhl_assert.specs.Steps.{as_new, register_in}
use Rattle.erhl_assert.specs.Acceptance.{first_of_two, first_printed, left_over}
use Rattle.fact_sets.specs.ErhlSides.Differing.{differing_among, differing_operands, is_left_over, first_with}

pub constant_doesnt_differ : (diff : List Reg) (a : Atom Reg) → (c : _) → a ≡ atom.Constant c → differing_among diff (a ∷ []) ≡ None
constant_doesnt_differ diff a c e = ap (λ (b : Atom Reg). differing_among diff (b ∷ [])) e

pub differs : (diff : List Reg) (a : Atom Reg) (r : Reg) → a ≡ atom.Register r → has_reg r diff ≡ true → differing_among diff (a ∷ []) ≡ Some r
differs diff a r e h = ap (λ (b : Atom Reg). differing_among diff (b ∷ [])) e ∙ ap (λ b. cond b (Some r) None) h

pub doesnt_differ : (diff : List Reg) (a : Atom Reg) (r : Reg) → a ≡ atom.Register r → has_reg r diff ≡ false → differing_among diff (a ∷ []) ≡ None
doesnt_differ diff a r e h = ap (λ (b : Atom Reg). differing_among diff (b ∷ [])) e ∙ ap (λ b. cond b (Some r) None) h

pub first_differs : (diff : List Reg) (a : Atom Reg) (atoms : List (Atom Reg)) (r : Reg) → differing_among diff (a ∷ []) ≡ Some r → differing_among diff (a ∷ atoms) ≡ Some r
first_differs diff (atom.Constant c) atoms r h = absurd (cc)
first_differs diff (atom.Register s) atoms r h =
    (elim (has_reg s diff) as (λ b. cond b (Some s) None ≡ Some r → cond b (Some s) (differing_among diff atoms) ≡ Some r) [
      | true ↦ λ e. e
      | false ↦ λ e. absurd (cc)
    ]) h

pub first_doesnt : (diff : List Reg) (a : Atom Reg) (atoms : List (Atom Reg)) → differing_among diff (a ∷ []) ≡ None → differing_among diff (a ∷ atoms) ≡ differing_among diff atoms
first_doesnt diff (atom.Constant c) atoms h = refl
first_doesnt diff (atom.Register s) atoms h =
    (elim (has_reg s diff) as (λ b. cond b (Some s) None ≡ None → cond b (Some s) (differing_among diff atoms) ≡ differing_among diff atoms) [
      | true ↦ λ e. absurd (cc)
      | false ↦ λ e. refl
    ]) h

first_is : (diff : List Reg) (a : Atom Reg) (rs : List Reg) (r : Reg) → differing_among diff (a ∷ []) ≡ Some r → find (λ s. has_reg s diff) (cons_option (register_in a) rs) ≡ Some r
first_is diff (atom.Constant c) rs r h = absurd (cc)
first_is diff (atom.Register s) rs r h =
    (elim (has_reg s diff) as (λ b. cond b (Some s) None ≡ Some r → cond b (Some s) (find (λ t. has_reg t diff) rs) ≡ Some r) [
      | true ↦ λ e. e
      | false ↦ λ e. absurd (cc)
    ]) h

first_is_not : (diff : List Reg) (a : Atom Reg) (rs : List Reg) → differing_among diff (a ∷ []) ≡ None
    → find (λ s. has_reg s diff) (cons_option (register_in a) rs) ≡ find (λ s. has_reg s diff) rs
first_is_not diff (atom.Constant c) rs h = refl
first_is_not diff (atom.Register s) rs h =
    (elim (has_reg s diff) as (λ b. cond b (Some s) None ≡ None → cond b (Some s) (find (λ t. has_reg t diff) rs) ≡ find (λ t. has_reg t diff) rs) [
      | true ↦ λ e. absurd (cc)
      | false ↦ λ e. refl
    ]) h

pub operand_differs : (diff : List Reg) (o : Operand Reg) (os : List (Operand Reg)) (r : Reg) → differing_among diff (o.atom ∷ []) ≡ Some r
    → differing_operands diff (o ∷ os) ≡ Some r
operand_differs diff o os r h = first_is diff o.atom (filter_map (λ (p : Operand Reg). register_in p.atom) os) r h

pub operand_doesnt : (diff : List Reg) (o : Operand Reg) (os : List (Operand Reg)) → differing_among diff (o.atom ∷ []) ≡ None
    → differing_operands diff (o ∷ os) ≡ differing_operands diff os
operand_doesnt diff o os h = first_is_not diff o.atom (filter_map (λ (p : Operand Reg). register_in p.atom) os) h

pub is_new : (r : Reg) (known : Assertion)
    → as_new r known ≡ on_side Tgt (killed (Naming r)) (on_side Src (killed (Naming r)) (record known { diff = without_reg r known.diff }))
is_new r known = refl

-- ---- registers that mustn't differ
module _ (wanted : List Reg) (r : Reg) (behind : Option Reg) where
  pub is_first : is_left_over wanted r ≡ true → first_with wanted r behind ≡ Some (first_of_two r behind)
  is_first h = ap (λ b. cond b (Some (first_of_two r behind)) behind) h

  pub is_not : is_left_over wanted r ≡ false → first_with wanted r behind ≡ behind
  is_not h = ap (λ b. cond b (Some (first_of_two r behind)) behind) h

more_left : (wanted : List Reg) (r : Reg) (rest : List Reg) → first_printed (left_over wanted (r ∷ rest)) ≡ first_with wanted r (first_printed (left_over wanted rest))
more_left wanted r rest =
    elim (is_left_over wanted r) as (λ b. first_printed (cond b (r ∷ left_over wanted rest) (left_over wanted rest)) ≡ cond b (Some (first_of_two r (first_printed (left_over wanted rest)))) (first_printed (left_over wanted rest)))
    [ true ↦ refl | false ↦ refl ]

one_less : (n done : ℕ) → done < n → n - 1 - done ≡ n - (done + 1)
one_less n done h = omega (arith, h)

from_last : (rs : List Reg) (i j : ℕ) (r : Reg) → i < length rs → j ≡ suc i → r ≡ get_or rs i r → drop i rs ≡ r ∷ drop j rs
from_last rs i j r h e at = drop-cons rs i r h ∙ ap₂ (λ (s : Reg) (k : ℕ). s ∷ drop k rs) (sym at) (sym e)

-- a walk from the last register
pub from_end : (wanted rs : List Reg) (done : ℕ) (r : Reg) (first : Option Reg) → done < length rs → r ≡ get_or rs (length rs - 1 - done) r
    → first ≡ first_printed (left_over wanted (drop (length rs - done) rs))
    → first_with wanted r first ≡ first_printed (left_over wanted (drop (length rs - (done + 1)) rs))
from_end wanted rs done r first h at so_far =
    ap (first_with wanted r) so_far
    ∙ sym (more_left wanted r (drop (length rs - done) rs))
    ∙ ap (λ (xs : List Reg). first_printed (left_over wanted xs)) (sym (from_last rs (length rs - 1 - done) (length rs - done) r (omega (arith, h)) (omega (arith, h)) at))
    ∙ ap (λ (i : ℕ). first_printed (left_over wanted (drop i rs))) (one_less (length rs) done h)

none_are : (p : Reg → Bool) (rs : List Reg) → list_any p rs ≡ false → filter p rs ≡ []
none_are p [] h = refl
none_are p (r ∷ rs) h =
    (elim (p r) as (λ b. (b || list_any p rs) ≡ false → cond b (r ∷ filter p rs) (filter p rs) ≡ []) [
      | true ↦ λ e. absurd (cc)
      | false ↦ λ e. none_are p rs e
    ]) h

pub none_told : (wanted rs : List Reg) → list_any (is_left_over wanted) rs ≡ false → first_printed (left_over wanted rs) ≡ None
none_told wanted rs h = ap first_printed (none_are (is_left_over wanted) rs h)
