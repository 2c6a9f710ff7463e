-- Registers stay related where one is set, on one side or on both, but for those that may differ then.
use Rattle.std.proofs.Common.{◌≡◌, Bool, true, false, cond, List, Option, None, Some, sym, subst, subst₂, ⊎_elim}
use Rattle.std.proofs.lemmas.Bool.{cases_Bool}
use Rattle.ir_types.specs.declared.names.Name.{Name}
use Rattle.ir_types.specs.NameLaws.{same_name_refl}
use Rattle.ir_core.specs.declared.expressions.Reg.{Reg}
use Rattle.ir_core.specs.declared.expressions.Reg.TheVariants as reg
use Rattle.ir_core.specs.declared.values.Kind.{Kind}
use Rattle.ir_core.specs.declared.values.Value.{Value}
use Rattle.ir_core.specs.declared.values.Value.TheVariants.{Poison}
use Rattle.ir_core.specs.Same.{same_reg}
use Rattle.ir_core.proofs.SameLaws.{same_reg_true}
use Rattle.ir_values.specs.Related.{IsRelated, Pairing}
use Rattle.ir_values.specs.Values.{same_kind}
use Rattle.ir_machine.specs.Registers.{held_at, holding}
use Rattle.ir_machine.proofs.Runs.{read_set_at}
use Rattle.erhl_assert.specs.Postcondition.{with_reg, without_reg}
use Rattle.erhl_assert.specs.Sides.{AreRelated, SideState, has_reg, no_ghost, read_reg}
use Rattle.erhl_soundness.proofs.Lines.{read_reg_other, set_now}
use Rattle.erhl_soundness.proofs.Outside.{outside_with, outside_without}

-- a line of the source alone, and of the target alone
module _ (ps : Pairing) (diff : List Reg) (source target : SideState) (related : AreRelated ps no_ghost diff source target) (x : Name) (o : Option Kind) (v : Value) where
  pub related_source : AreRelated ps no_ghost (with_reg (reg.Now x) diff) (set_now source x o v) target
  related_source = record {
    outside = λ r k out.
        let parts = outside_with r (reg.Now x) diff out in
        subst (λ a. IsRelated ps a (read_reg target k r)) (sym (read_reg_other source x o v k r parts.1)) (related.outside r k parts.0);
    ghosts = related.ghosts;
  }

  pub related_target : AreRelated ps no_ghost (with_reg (reg.Now x) diff) source (set_now target x o v)
  related_target = record {
    outside = λ r k out.
        let parts = outside_with r (reg.Now x) diff out in
        subst (λ b. IsRelated ps (read_reg source k r) b) (sym (read_reg_other target x o v k r parts.1)) (related.outside r k parts.0);
    ghosts = related.ghosts;
  }

-- two lines that set one register to related values
at_related : (ps : Pairing) (b : Bool) (v w : Value) → IsRelated ps v w → IsRelated ps (cond b v Poison) (cond b w Poison)
at_related ps true v w h = h
at_related ps false v w h = tt

pub held_related : (ps : Pairing) (o : Option Kind) (k : Kind) (v w : Value) → IsRelated ps v w → IsRelated ps (held_at k (holding o v)) (held_at k (holding o w))
held_related ps None k v w h = tt
held_related ps (Some j) k v w h = at_related ps (same_kind j k) v w h

pub related_both : (ps : Pairing) (diff : List Reg) (source target : SideState) (x : Name) (o : Option Kind) (v w : Value) → IsRelated ps v w
    → AreRelated ps no_ghost diff source target → AreRelated ps no_ghost (without_reg (reg.Now x) diff) (set_now source x o v) (set_now target x o w)
related_both ps diff source target x o v w less related = record {
  outside = λ r k out. ⊎_elim
      (λ e.
      subst (λ q. IsRelated ps (read_reg (set_now source x o v) k q) (read_reg (set_now target x o w) k q)) (same_reg_true (reg.Now x) r e)
      (subst₂ (IsRelated ps) (sym (read_set_at source.files.now x x o k v (same_name_refl x))) (sym (read_set_at target.files.now x x o k w (same_name_refl x))) (held_related ps o k v w less)))
      (λ e.
      subst₂ (IsRelated ps) (sym (read_reg_other source x o v k r e)) (sym (read_reg_other target x o w k r e))
      (related.outside r k (outside_without r (reg.Now x) diff e out)))
      (cases_Bool (same_reg (reg.Now x) r));
  ghosts = related.ghosts;
}
