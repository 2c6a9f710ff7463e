-- What two sides know, and that they are sides again, behind the phis of an edge and where a block begins.
use Rattle.std.proofs.Common.{◌≡◌, true, false, not, List, [], ◌∷◌, ◌++◌, map, Option, None, Some, refl, sym, ap, subst, subst₂, ◌∙◌, ⊎_elim}
use Rattle.std.specs.Prelude.{filter}
use Rattle.std.specs.List.{AllByRecursion, list_any}
use Rattle.std.proofs.lemmas.Bool.{or_parts, or_from, false≢true, cases_Bool, not_from_false}
use Rattle.std.proofs.lemmas.List.Folds.{list_any-append}
use Rattle.ir_types.specs.declared.names.Name.{Name}
use Rattle.ir_types.specs.declared.ty.Ty.{Ty}
use Rattle.ir_core.specs.declared.values.Kind.{Kind}
use Rattle.ir_core.specs.declared.expressions.Reg.{Reg}
use Rattle.ir_core.specs.declared.expressions.Reg.TheVariants.{Now, Old, Ghost}
use Rattle.ir_core.specs.declared.functions.Entry.{Entry}
use Rattle.ir_core.specs.declared.functions.Phi.{Phi}
use Rattle.ir_types.specs.Same.{same_name, same_ty}
use Rattle.ir_core.specs.Same.{same_reg}
use Rattle.ir_core.specs.Types.{kind_of}
use Rattle.ir_types.specs.NameLaws.{left_true, right_true}
use Rattle.ir_types.proofs.SameLaws.{same_ty_true}
use Rattle.ir_values.specs.Related.{IsRelated, Pairing}
use Rattle.ir_values.specs.Constants.{Scope}
use Rattle.ir_machine.specs.Registers.{no_registers, read, holding, held_at}
use Rattle.ir_machine.specs.Machine.{with_phis, entry_value, entry_from}
use Rattle.ir_machine.proofs.InKind.{no_registers_in_kind}
use Rattle.erhl_assert.specs.declared.facts.Fact.{Fact}
use Rattle.erhl_assert.specs.declared.facts.Assertion.{Assertion}
use Rattle.erhl_assert.specs.Sides.{SideState, IsFine, read_reg, has_reg, AreRelated, no_ghost}
use Rattle.erhl_assert.specs.Facts.{Holds, AssertionHolds, without, each_once}
use Rattle.erhl_assert.specs.Edges.{Edge, is_old, old_of, without_old, sets, phi_setting, entries_match, phis_match, is_alike, phi_registers, old_too, diff_over, after_edge}
use Rattle.erhl_assert.specs.Steps.{Beside, first_missing}
use Rattle.erhl_soundness.specs.Laws.{AreApart, crossed, AnEdgeKeepsWhatHolds}
use Rattle.erhl_soundness.specs.TwoSides.{AreCommon, HoldsMade}
use Rattle.erhl_soundness.proofs.Facts.{stays_so, premises_hold, with_facts_hold, without_holds}
use Rattle.erhl_soundness.proofs.Kills.{same_name_apart}
use Rattle.erhl_soundness.proofs.Matched.{atoms_matched_related}
use Rattle.erhl_soundness.proofs.Changing.{held_related}
use Rattle.erhl_soundness.proofs.Outside.{outside_filter}
use Rattle.erhl_soundness.proofs.Definitions.{ArePhisDefined, phis_defined, none_defined}
use Rattle.erhl_soundness.proofs.Edges.{NoneAgain, apart_once, phi_holds, set_by_found, unset_by_phis}
use Rattle.erhl_soundness.proofs.OneSide.{edges_keep}
use Rattle.erhl_soundness.proofs.Standing.{Run, side, Stand, common_with, fine_with, made_with}

-- ---- registers that may differ

old_mapped : (x : Name) (rs : List Reg) → has_reg (Old x) (map old_of rs) ≡ false → has_reg (Now x) rs ≡ false
old_mapped x [] h = refl
old_mapped x (Now y ∷ rs) h =
    let parts = or_parts (same_name x y) (has_reg (Old x) (map old_of rs)) h in or_from (same_name x y) (has_reg (Now x) rs) parts.0 (old_mapped x rs parts.1)
old_mapped x (Old y ∷ rs) h = let parts = or_parts (same_name x y) (has_reg (Old x) (map old_of rs)) h in old_mapped x rs parts.1
old_mapped x (Ghost y ∷ rs) h = old_mapped x rs h

unnamed : (x : Name) (ps : List Phi) → has_reg (Now x) (phi_registers ps) ≡ false → list_any (sets x) ps ≡ false
unnamed x [] h = refl
unnamed x (p ∷ ps) h =
    let parts = or_parts (same_name x p.name) (has_reg (Now x) (phi_registers ps)) h in
    or_from (same_name p.name x) (list_any (sets x) ps) (same_name_apart x p.name parts.0) (unnamed x ps parts.1)

module _ (ps : Pairing) (known : Assertion) (e : Edge) (source target : SideState) (common : AreCommon ps source target) (holds : AssertionHolds ps no_ghost known source target)
    (source_apart : NoneAgain e.source) (target_apart : NoneAgain e.target) where
  abbrev kept : List Reg
  kept = filter (λ r. not (is_old r)) known.diff

  abbrev of_phis : List Reg
  of_phis = phi_registers e.source ++ phi_registers e.target

  abbrev all_of : List Reg
  all_of = old_too known.diff ++ of_phis

  parts_of : (r : Reg) → has_reg r all_of ≡ false
      → (has_reg r kept ≡ false) × (has_reg r (map old_of kept) ≡ false) × (has_reg r (phi_registers e.source) ≡ false) × (has_reg r (phi_registers e.target) ≡ false)
  parts_of r h =
      let two = or_parts (has_reg r (old_too known.diff)) (has_reg r of_phis) (sym (list_any-append (same_reg r) (old_too known.diff) of_phis) ∙ h) in
      let first = or_parts (has_reg r kept) (has_reg r (map old_of kept)) (sym (list_any-append (same_reg r) kept (map old_of kept)) ∙ two.0) in
      let second = or_parts (has_reg r (phi_registers e.source)) (has_reg r (phi_registers e.target))
      (sym (list_any-append (same_reg r) (phi_registers e.source) (phi_registers e.target)) ∙ two.1) in
      (first.0, first.1, second.0, second.1)

  -- a register that was outside before the edge
  was_outside : (x : Name) → has_reg (Now x) kept ≡ false → has_reg (Now x) known.diff ≡ false
  was_outside x h = outside_filter (λ r. not (is_old r)) (Now x) known.diff refl h

  entries_related : (t : Ty) (o p : Option Entry) → entries_match known t o p ≡ true
      → IsRelated ps (entry_value source.scope source.files.now t o) (entry_value target.scope target.files.now t p)
  entries_related t None p h = absurd (false≢true h)
  entries_related t (Some d) None h = absurd (false≢true h)
  entries_related t (Some d) (Some f) h = atoms_matched_related ps known source target common holds t d.value t f.value h

  phis_related : (k : Kind) (x : Name) (o u : Option Phi) → phi_setting x e.source ≡ o → phi_setting x e.target ≡ u
      → phis_match known e.from o u ≡ true
      → IsRelated ps (read (with_phis source.scope source.files.now e.from e.source source.files.now) k x) (read (with_phis target.scope target.files.now e.from e.target target.files.now) k x)
  phis_related k x None u is_p is_q h = absurd (false≢true h)
  phis_related k x (Some p) None is_p is_q h = absurd (false≢true h)
  phis_related k x (Some p) (Some q) is_p is_q h =
      let of_p = entry_from e.from p.entries in
      let of_q = entry_from e.from q.entries in
      let types : p.ty ≡ q.ty = same_ty_true p.ty q.ty (left_true (same_ty p.ty q.ty) (entries_match known p.ty of_p of_q) h) in
      let related = entries_related p.ty of_p of_q (right_true (same_ty p.ty q.ty) (entries_match known p.ty of_p of_q) h) in
      let both : IsRelated ps (held_at k (phi_holds source.scope e.from source.files.now p)) (held_at k (phi_holds target.scope e.from target.files.now q)) =
      subst (λ t. IsRelated ps (held_at k (phi_holds source.scope e.from source.files.now p)) (held_at k (holding (kind_of t) (entry_value target.scope target.files.now t of_q)))) types
      (held_related ps (kind_of p.ty) k (entry_value source.scope source.files.now p.ty of_p) (entry_value target.scope target.files.now p.ty of_q) related) in
      subst₂ (IsRelated ps) (sym (ap (held_at k) (set_by_found source.scope e.from source.files.now x p e.source source.files.now source_apart is_p)))
      (sym (ap (held_at k) (set_by_found target.scope e.from target.files.now x q e.target target.files.now target_apart is_q))) both

  pub related_over : AreRelated ps no_ghost (diff_over e known) (crossed e.from e.source source) (crossed e.from e.target target)
  related_over = record { outside = outside; ghosts = holds.related.ghosts }
    where
      outside : (r : Reg) (k : Kind) → has_reg r (diff_over e known) ≡ false
          → IsRelated ps (read_reg (crossed e.from e.source source) k r) (read_reg (crossed e.from e.target target) k r)
      outside (Ghost g) k out = holds.related.ghosts g k refl
      outside (Old x) k out =
          let parts = parts_of (Old x) (outside_filter (λ r. not (is_alike known e r)) (Old x) all_of refl out) in
          holds.related.outside (Now x) k (was_outside x (old_mapped x kept parts.1))
      outside (Now x) k out = ⊎_elim
          (λ h. phis_related k x (phi_setting x e.source) (phi_setting x e.target) refl refl h)
          (λ h.
          let parts = parts_of (Now x) (outside_filter (λ r. not (is_alike known e r)) (Now x) all_of (not_from_false (is_alike known e (Now x)) h) out) in
          subst₂ (IsRelated ps)
          (sym (ap (held_at k) (unset_by_phis source.scope e.from source.files.now x e.source source.files.now (unnamed x e.source parts.2))))
          (sym (ap (held_at k) (unset_by_phis target.scope e.from target.files.now x e.target target.files.now (unnamed x e.target parts.3))))
          (holds.related.outside (Now x) k (was_outside x parts.0)))
          (cases_Bool (is_alike known e (Now x)))

-- ---- the law of edges

pub crossed_common : (ps : Pairing) (source target : SideState) (from : Name) (phis others : List Phi) → AreCommon ps source target
    → AreCommon ps (crossed from phis source) (crossed from others target)
crossed_common ps source target from phis others h = common_with ps source target (crossed from phis source).files (crossed from others target).files h

pub edge_keeps : AnEdgeKeepsWhatHolds
edge_keeps ps known e source target sides source_apart target_apart holds =
    let over = edges_keep source e.from e.source sides.source_fine source_apart in
    let over' = edges_keep target e.from e.target sides.target_fine target_apart in (
      record {
        common = crossed_common ps source target e.from e.source e.target sides.common;
        source_fine = over.fine;
        target_fine = over'.fine;
        source_made = over.made sides.source_made;
        target_made = over'.made sides.target_made;
      },
      record {
        source_facts = over.facts known.src holds.source_facts;
        target_facts = over'.facts known.tgt holds.target_facts;
        related = related_over ps known e source target sides.common holds (apart_once e.source source_apart) (apart_once e.target target_apart);
      },
    )

-- ---- the invariant over an edge

-- a side behind phis
abbrev pub jumped : Scope → Name → List Phi → Run → Run
jumped scope from phis r = record r { files = record r.files { now = with_phis scope r.files.now from phis r.files.now; old = r.files.now } }

pub edge_stands : (w : Beside) (ps : Pairing) (known : Assertion) (e : Edge) (a b : Run) → Stand w ps known a b
    → AreApart e.source → AreApart e.target → ArePhisDefined w.source e.source
    → Stand w ps (after_edge known e) (jumped w.scope e.from e.source a) (jumped w.scope e.from e.target b)
edge_stands w ps known e a b stand source_apart target_apart defined =
    let keeps = edge_keeps ps known e (side w.scope a) (side w.scope b) stand.sides source_apart target_apart stand.holds in record {
      sides = keeps.0;
      now_defined = phis_defined w.source w.scope e.from e.source a.files.now a.files.now defined stand.now_defined;
      old_defined = stand.now_defined;
      holds = keeps.1;
    }

-- where a block begins old registers are forgotten
abbrev pub forgotten : Run → Run
forgotten r = record r { files = record r.files { old = no_registers } }

module _ (scope : Scope) (a : Run) where
  forgets : (k : Kind) (r : Reg) → is_old r ≡ false → read_reg (side scope (forgotten a)) k r ≡ read_reg (side scope a) k r
  forgets k (Now x) h = refl
  forgets k (Old x) h = absurd (false≢true (sym h))
  forgets k (Ghost x) h = refl

  forgotten_facts : (fs : List Fact) → AllByRecursion (Holds (side scope a)) fs → AllByRecursion (Holds (side scope (forgotten a))) (without is_old fs)
  forgotten_facts fs all = without_holds is_old (side scope a) (side scope (forgotten a)) (stays_so (side scope a) (forgotten a).files) forgets refl fs all

  forgotten_fine : IsFine (side scope a) → IsFine (side scope (forgotten a))
  forgotten_fine h = fine_with (side scope a) (forgotten a).files h h.now no_registers_in_kind h.ghost

  forgotten_made : HoldsMade (side scope a) → HoldsMade (side scope (forgotten a))
  forgotten_made h = made_with (side scope a) (forgotten a).files h h.now (λ x. tt) h.ghost

-- What the hint claims at a block's start, where it is known on the edge, and no other registers than it says may differ, but for old ones.
pub arrives : (w : Beside) (ps : Pairing) (known wanted : Assertion) (a b : Run) → Stand w ps known a b
    → first_missing (without_old known).src wanted.src ≡ None → first_missing (without_old known).tgt wanted.tgt ≡ None
    → ((r : Reg) → is_old r ≡ false → has_reg r wanted.diff ≡ false → has_reg r known.diff ≡ false)
    → Stand w ps (each_once wanted) (forgotten a) (forgotten b)
arrives w ps known wanted a b stand in_src in_tgt inside =
    let source = side w.scope (forgotten a) in
    let target = side w.scope (forgotten b) in record {
      sides = record {
        common = common_with ps (side w.scope a) (side w.scope b) (forgotten a).files (forgotten b).files stand.sides.common;
        source_fine = forgotten_fine w.scope a stand.sides.source_fine;
        target_fine = forgotten_fine w.scope b stand.sides.target_fine;
        source_made = forgotten_made w.scope a stand.sides.source_made;
        target_made = forgotten_made w.scope b stand.sides.target_made;
      };
      now_defined = stand.now_defined;
      old_defined = none_defined w.source;
      holds = record {
        source_facts = with_facts_hold source wanted.src []
            (premises_hold source (without is_old known.src) wanted.src (forgotten_facts w.scope a known.src stand.holds.source_facts) in_src) tt;
        target_facts = with_facts_hold target wanted.tgt []
            (premises_hold target (without is_old known.tgt) wanted.tgt (forgotten_facts w.scope b known.tgt stand.holds.target_facts) in_tgt) tt;
        related = record { outside = outside; ghosts = stand.holds.related.ghosts };
      };
    }
  where
    outside : (r : Reg) (k : Kind) → has_reg r wanted.diff ≡ false → IsRelated ps (read_reg (side w.scope (forgotten a)) k r) (read_reg (side w.scope (forgotten b)) k r)
    outside (Now x) k out = stand.holds.related.outside (Now x) k (inside (Now x) refl out)
    outside (Old x) k out = tt
    outside (Ghost x) k out = stand.holds.related.ghosts x k refl
