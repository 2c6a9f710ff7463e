-- Related states make related moves: at terminators, by a jump with its edge, or a return.
use Rattle.std.proofs.Common.{◌≡◌, ◌⊎◌, inl, inr, Bool, true, false, ◌&&◌, ℕ, List, [], ◌∷◌, ◌++◌, map, nat_eq, Option, None, Some, refl, sym, ap, ◌∙◌, subst, subst₂, ⊎_elim}
use Rattle.std.specs.List.{AllByRecursion, list_any}
use Rattle.std.proofs.lemmas.Bool.{cond_both, or_cases, or_left, or_right, false≢true}
use Rattle.std.proofs.lemmas.List.{append-nil}
use Rattle.ir_types.specs.declared.names.Name.{Name}
use Rattle.ir_types.specs.declared.ty.Ty.{Ty}
use Rattle.ir_core.specs.declared.operands.Operand.{Operand}
use Rattle.ir_core.specs.declared.values.Value.{Value}
use Rattle.ir_core.specs.declared.values.Value.TheVariants.{Num, Ptr, Bare, Undef, Poison}
use Rattle.ir_core.specs.declared.functions.Case.{Case}
use Rattle.ir_core.specs.declared.functions.Block.{Block}
use Rattle.ir_core.specs.declared.functions.Phi.{Phi}
use Rattle.ir_core.specs.declared.functions.Term.{Term}
use Rattle.ir_core.specs.declared.functions.Term.TheVariants.{Ret, RetVoid, Br, CondBr, Switch, Unreachable}
use Rattle.ir_core.specs.declared.modules.Module.{Module}
use Rattle.ir_core.specs.Functions.{successors_of}
use Rattle.ir_types.specs.Same.{same_list, same_name, same_ty}
use Rattle.ir_core.specs.Types.{kind_of, number_at}
use Rattle.ir_types.specs.NameLaws.{left_true, right_true, same_list_true, same_nat_true, same_name_true, same_name_refl}
use Rattle.ir_types.proofs.SameLaws.{same_ty_true}
use Rattle.ir_machine.specs.declared.items.Item.{Item}
use Rattle.ir_machine.specs.declared.items.Item.TheVariants.{Turn, Wrong}
use Rattle.ir_values.specs.Constants.{Scope}
use Rattle.ir_values.specs.Related.{IsRelated, Pairing}
use Rattle.block_memory.specs.declared.items.Choice.TheVariants.{Go}
use Rattle.ir_machine.specs.Registers.{Registers, read, operand_value}
use Rattle.ir_machine.specs.State.{scope_of, Frame, State}
use Rattle.ir_machine.specs.Machine.{Told, Asks, Ask, wrong, Made, Follows, asks, block_named, with_phis, entering, jump, is_among, is_label, label_told, gone_to, gone, branch, side_of, case_of, without_own, return_step, term_step}
use Rattle.ir_machine.proofs.InKind.{operand_in_kind}
use Rattle.erhl_assert.specs.declared.facts.Assertion.{Assertion}
use Rattle.erhl_assert.specs.declared.verdict.Reason.{Reason}
use Rattle.erhl_assert.specs.declared.verdict.Reason.TheVariants.{KindsDiffer, Unmatched}
use Rattle.erhl_assert.specs.Facts.{each_once}
use Rattle.erhl_assert.specs.Matched.{matched}
use Rattle.erhl_assert.specs.Alignment.{AlignedBlock, block_hint}
use Rattle.erhl_assert.specs.Edges.{Edge, phis_of, after_edge}
use Rattle.erhl_assert.specs.Course.{Gives, IsGood}
use Rattle.erhl_assert.specs.Steps.{Beside, AreSound, after_steps, steps_at, steps_on}
use Rattle.erhl_assert.specs.Acceptance.{same_case, operand_fault, of_one_kind, term_fault, edge_judged, hint_of_block, lines_judged}
use Rattle.erhl_soundness.proofs.Matched.{matched_related, matched_type}
use Rattle.erhl_soundness.proofs.Definitions.{AreLinesDefined}
use Rattle.erhl_soundness.proofs.Standing.{Run, side, Stand, with_ghost, with_now}
use Rattle.erhl_soundness.proofs.Steps.{passed, steps_lead}
use Rattle.erhl_soundness.proofs.Crossing.{jumped, edge_stands, forgotten, arrives}
use Rattle.erhl_soundness.proofs.Judging.{EdgeIsGood, edge_good, end_good, block_good}
use Rattle.erhl_soundness.proofs.Returning.{DoesAs, wrong_made, result_is_last, result_does_as}
use Rattle.erhl_soundness.proofs.Relation.{Marked, mark_of, own_lines, frame_of, running, LeadsOn, IsPairFine, AreStatesRelated, IsBlockFine, found}
use Rattle.erhl_soundness.proofs.Moves.{at_wrong}
use Rattle.erhl_soundness.proofs.Simulation.{Stays, Matches, GoesWrong, Moves}

-- ---- tests of terminators that find no fault

one_kind : (b : Bool) (rest : Option Reason) → of_one_kind b rest ≡ None → (b ≡ true) × (rest ≡ None)
one_kind true rest h = (refl, h)
one_kind false rest h = absurd (cc)

some_is_none : (r : Reason) → Some r ≡ None → ⊥
some_is_none r h = cc

same_case_true : (c d : Case) → same_case c d ≡ true → c ≡ d
same_case_true c d h =
    let ty = same_ty c.ty d.ty in
    let number = nat_eq c.number d.number in
    let label = same_name c.label d.label in
    let two : (ty && number) ≡ true = left_true (ty && number) label h in
    let types : c.ty ≡ d.ty = same_ty_true c.ty d.ty (left_true ty number two) in
    let numbers : c.number ≡ d.number = same_nat_true c.number d.number (right_true ty number two) in
    let labels : c.label ≡ d.label = same_name_true c.label d.label (right_true (ty && number) label h) in
    let parts : ((c.ty, c.number, c.label) ≡ (d.ty, d.number, d.label)) = cc in
    ap (λ (p : Ty × ℕ × Name). record { ty = p.0; number = p.1; label = p.2 }) parts

-- ---- labels that a branch may take

side_among : (p q : Name) (n : ℕ) → list_any (same_name (side_of p q n)) (p ∷ q ∷ []) ≡ true
side_among p q n = cond_both (nat_eq n 1) p q (λ to. list_any (same_name to) (p ∷ q ∷ []) ≡ true)
    (λ e. or_left (same_name p p) (list_any (same_name p) (q ∷ [])) (same_name_refl p))
    (λ e. or_right (same_name q p) (list_any (same_name q) (q ∷ [])) (or_left (same_name q q) false (same_name_refl q)))

abbrev case_labels : List Case → List Name
case_labels cs = map (λ (c : Case). c.label) cs

cases_among : (t : Ty) (default : Name) (cs : List Case) (n : ℕ) → list_any (same_name (case_of t default cs n)) (default ∷ case_labels cs) ≡ true
cases_among t default [] n = or_left (same_name default default) false (same_name_refl default)
cases_among t default (c ∷ cs) n = cond_both (nat_eq (number_at t c.number) n) c.label (case_of t default cs n) (λ to. list_any (same_name to) (default ∷ case_labels (c ∷ cs)) ≡ true)
    (λ e. or_right (same_name c.label default) (list_any (same_name c.label) (case_labels (c ∷ cs))) (or_left (same_name c.label c.label) (list_any (same_name c.label) (case_labels cs)) (same_name_refl c.label)))
    (λ e.
    let to = case_of t default cs n in
    ⊎_elim
    (λ h. or_left (same_name to default) (list_any (same_name to) (case_labels (c ∷ cs))) h)
    (λ h. or_right (same_name to default) (list_any (same_name to) (case_labels (c ∷ cs))) (or_right (same_name to c.label) (list_any (same_name to) (case_labels cs)) h))
    (or_cases (same_name to default) (list_any (same_name to) (case_labels cs)) (cases_among t default cs n)))

both_all : {A : Type 0} (P Q : A → Type 0) (xs : List A) → AllByRecursion P xs → AllByRecursion Q xs → AllByRecursion (λ x. P x × Q x) xs
both_all P Q [] p q = tt
both_all P Q (x ∷ xs) p q = ((p.0, q.0), both_all P Q xs p.1 q.1)

module _ (first second : Module) (w : Beside) (of_first : scope_of first ≡ w.scope) (of_second : scope_of second ≡ w.scope)
    (sound : AreSound w.rules) (blocks : List Marked) (fine : IsPairFine w blocks) where
  abbrev is_reached : Name → Bool
  is_reached to = mark_of to blocks

  abbrev related_states : ℕ → State → State → Type 0
  related_states = AreStatesRelated w.rules w.scope

  -- what a tree of the source may do where the target made this step
  abbrev Follow : Asks → Made → Type 0
  Follow tree made = ((k : ℕ) × (other : Made) × Follows tree other × (made.items ≡ other.items) × related_states k other.after made.after)
      ⊎ ((wrongly : Made) × (seen : List Item) × (rest : List Item) × Follows tree wrongly × (wrongly.items ≡ seen ++ Wrong ∷ []) × (made.items ≡ seen ++ rest))

  follow_wrong : (made : Made) → Follow wrong made
  follow_wrong made = inr (at_wrong, [], made.items, refl, refl, refl)

  -- ---- jumps
  module _ (b : AlignedBlock) (names : b.target.name ≡ b.source.name) (known : Assertion) (ps : Pairing) (a c : Run) (stand : Stand w ps known a c) where
    abbrev x : Frame
    x = frame_of w.source b.source a []

    abbrev y : Frame
    y = frame_of w.target b.target c []

    abbrev on_source : Name → Asks
    on_source = jump w.scope x [] a.world

    abbrev on_target : Name → Asks
    on_target = jump w.scope y [] c.world

    abbrev IsOpen : Name → Type 0
    IsOpen to = (is_reached to ≡ true) × IsGood (edge_judged w b.source.name known to)

    -- a run where it lands, with these ghost registers
    abbrev lands : Name → List Phi → Run → Registers → Run
    lands from phis r ghost = forgotten (with_ghost (jumped w.scope from phis r) ghost)

    -- whatever its ghost registers are
    abbrev source_lands : Block → State
    source_lands d = running w.source d (with_now a (with_phis w.scope a.files.now b.source.name d.phis a.files.now)) d.body

    abbrev target_lands : Block → State
    target_lands d = running w.target d (with_now c (with_phis w.scope c.files.now b.target.name d.phis c.files.now)) d.body

    landed_stand : (to : Name) (mark : Bool) (d : AlignedBlock) → IsBlockFine w is_reached (mark, d)
        → block_named to w.source.blocks ≡ Some d.source → block_named to w.target.blocks ≡ Some d.target → EdgeIsGood w b.source.name to known
        → (g : Registers) × (h : Registers) × Stand w ps (each_once (block_hint w.hint to).entry) (lands b.source.name d.source.phis a g) (lands b.source.name d.target.phis c h)
    landed_stand to mark d good is_source is_target edge =
        let from = b.source.name in
        let e : Edge = record { from = from; source = d.source.phis; target = d.target.phis } in
        let steps = steps_on to (block_hint w.hint from).edges in
        let crossing = edge_stands w ps known e a c stand good.source_apart good.target_apart good.defined.0 in
        let judged = subst₂ (λ (p : Option Block) (q : Option Block). (after_steps w steps (after_edge known (record { from = b.source.name; source = phis_of p; target = phis_of q }))).ends ≡ Gives edge.after)
        is_source is_target edge.steps in
        let stepped = steps_lead w sound ps steps (jumped w.scope from d.source.phis a) (jumped w.scope from d.target.phis c) (after_edge known e) edge.after crossing judged in
        let g = with_ghost (jumped w.scope from d.source.phis a) stepped.0 in
        let h = with_ghost (jumped w.scope from d.target.phis c) stepped.1 in
        (stepped.0, stepped.1, arrives w ps edge.after (block_hint w.hint to).entry g h stepped.2 edge.in_src edge.in_tgt edge.inside)

    landed_related : (to : Name) (mark : Bool) (d : AlignedBlock) → IsBlockFine w is_reached (mark, d) → mark_of to blocks ≡ mark → d.source.name ≡ to → IsOpen to
        → block_named to w.source.blocks ≡ Some d.source → block_named to w.target.blocks ≡ Some d.target
        → related_states (own_lines d.lines) (source_lands d.source) (target_lands d.target)
    landed_related to mark d good marked named opened is_source is_target =
        let at = landed_stand to mark d good is_source is_target (edge_good w b.source.name known to opened.1) in
        let here : mark ≡ true = sym marked ∙ opened.0 in
        let g = lands b.source.name d.source.phis a at.0 in
        let h = lands b.source.name d.target.phis c at.1 in
        inl (record {
          source = w.source;
          target = w.target;
          hint = w.hint;
          blocks = blocks;
          pair_fine = fine;
          block = d;
          place = 0;
          left = d.lines;
          known = each_once (hint_of_block w d).entry;
          pairs = ps;
          source_run = g;
          target_run = h;
          stand = subst (λ n. Stand w ps (each_once (block_hint w.hint n).entry) g h) (sym named) at.2;
          good = block_good w d (good.good here);
          names = good.aligned.names;
          onward = good.onward here;
          defined = subst (AreLinesDefined w.source) good.aligned.source good.defined.1;
          is_k = refl;
          is_s = ap (running w.source d.source g) good.aligned.source;
          is_t = ap (λ (n : Name). running w.target d.target (with_now c (with_phis w.scope c.files.now n d.target.phis c.files.now)) d.target.body) names
              ∙ ap (running w.target d.target h) good.aligned.target;
        })

    jumps : (to : Name) → IsOpen to → (made : Made) → Follows (on_target to) made → Follow (on_source to) made
    jumps to opened made f = ⊎_elim
        (λ h.
        let none : block_named to w.source.blocks ≡ None = ap (block_named to) fine.source_blocks ∙ h.0 in
        subst (λ o. Follow (entering w.scope x [] a.world o) made) (sym none) (follow_wrong made))
        (λ h.
        let d : AlignedBlock = h.0.1 in
        let is_source : block_named to w.source.blocks ≡ Some d.source = ap (block_named to) fine.source_blocks ∙ h.1 in
        let is_target : block_named to w.target.blocks ≡ Some d.target = ap (block_named to) fine.target_blocks ∙ h.2 in
        let g : Follows (entering w.scope y [] c.world (Some d.target)) made = subst (λ o. Follows (entering w.scope y [] c.world o) made) is_target f in
        let after : State = source_lands d.source in
        let other : Made = record { told = []; items = Turn ∷ []; after = after } in
        subst (λ o. Follow (entering w.scope x [] a.world o) made) (sym is_source) (inl (
          own_lines d.lines,
          other,
          refl,
          ap (λ (m : Made). m.items) g,
          subst (λ (m : Made). related_states (own_lines d.lines) after m.after) (sym g) (landed_related to h.0.0 d h.5 h.3 h.4 opened is_source is_target),
        )))
        (found w is_reached to blocks fine.fine)

    -- a source that is asked where to go
    asked : (labels : List Name) (to : Name) (made : Made) → list_any (same_name to) labels ≡ true → Follow (on_source to) made
        → Follow (Ask (is_label labels) (λ t. gone t on_source)) made
    asked labels to made fits (inl h) = inl (
      h.0,
      record { told = Told (Go to) ∷ h.1.told; items = h.1.items; after = h.1.after },
      (Told (Go to), h.1, fits, h.2, refl),
      h.3,
      h.4,
    )
    asked labels to made fits (inr h) = inr (
      record { told = Told (Go to) ∷ h.0.told; items = h.0.items; after = h.0.after },
      h.1,
      h.2,
      (Told (Go to), h.0, fits, h.3, refl),
      h.4,
      h.5,
    )

    -- where every label that may be taken is judged
    leads : (labels : List Name) (to : Name) → list_any (same_name to) labels ≡ true → AllByRecursion IsOpen labels → IsOpen to
    leads [] to h all = absurd (false≢true h)
    leads (l ∷ labels) to h all =
        ⊎_elim (λ e. subst IsOpen (sym (same_name_true to l e)) all.0) (λ e. leads labels to e all.1) (or_cases (same_name to l) (list_any (same_name to) labels) h)

    -- of two branches on undef
    undef_follows : (labels : List Name) → AllByRecursion IsOpen labels → (made : Made) → Follows (Ask (is_label labels) (λ t. gone t on_target)) made
        → Follow (Ask (is_label labels) (λ t. gone t on_source)) made
    undef_follows labels all made f = to_label (label_told f.0) f.2 f.3
      where
        again : (to : Name) → list_any (same_name to) labels ≡ true → Follow (on_source to) f.1 → Follow (Ask (is_label labels) (λ t. gone t on_source)) made
        again to fits h =
            subst (λ (m : Made). Follow (Ask (is_label labels) (λ t. gone t on_source)) m) (sym f.4)
            (asked labels to (record { told = f.0 ∷ f.1.told; items = f.1.items; after = f.1.after }) fits h)

        to_label : (o : Option Name) → is_among labels o ≡ true → Follows (gone_to o on_target) f.1 → Follow (Ask (is_label labels) (λ t. gone t on_source)) made
        to_label None fits g = absurd g
        to_label (Some to) fits g = again to fits (jumps to (leads labels to fits all) f.1 g)

    branches : (v u : Value) (label : ℕ → Name) (labels : List Name) → ((n : ℕ) → list_any (same_name (label n)) labels ≡ true) → IsRelated ps v u → AllByRecursion IsOpen labels
        → (made : Made) → Follows (branch u label labels on_target) made → Follow (branch v label labels on_source) made
    branches Poison u label labels among less all made f = follow_wrong made
    branches Undef Poison label labels among less all made f = absurd less
    branches Undef (Num n) label labels among less all made f =
        asked labels (label n) made (among n) (jumps (label n) (leads labels (label n) (among n) all) made f)
    branches Undef Undef label labels among less all made f = undef_follows labels all made f
    branches Undef (Ptr block offset) label labels among less all made f = undef_follows labels all made f
    branches Undef (Bare address) label labels among less all made f = undef_follows labels all made f
    branches (Ptr block offset) u label labels among less all made f =
        undef_follows labels all made (subst (λ z. Follows (branch z label labels on_target) made) less.2 f)
    branches (Bare address) u label labels among less all made f =
        undef_follows labels all made (subst (λ z. Follows (branch z label labels on_target) made) less f)
    branches (Num n) u label labels among less all made f =
        jumps (label n) (leads labels (label n) (among n) all) made
        (subst (λ z. Follows (branch z label labels on_target) made) less f)

    operands_related : (d e : Operand Name) → matched known d e ≡ true
        → IsRelated ps (operand_value w.scope (read a.files.now) d) (operand_value w.scope (read c.files.now) e)
    operands_related d e same = matched_related ps known (side w.scope a) (side w.scope c) stand.sides.common stand.holds d e same

    -- ---- returns, where the blocks that either frame owns end

    returns : (d e : Operand Name) → matched known d e ≡ true → (made : Made)
        → Follows (return_step (kind_of e.ty) (operand_value w.scope (read c.files.now) e) [] (without_own c.own c.world)) made
        → Follow (return_step (kind_of d.ty) (operand_value w.scope (read a.files.now) d) [] (without_own a.own a.world)) made
    returns d e same made f =
        let v = operand_value w.scope (read a.files.now) d in
        let u = operand_value w.scope (read c.files.now) e in
        let left = without_own a.own a.world in
        let left' = without_own c.own c.world in
        let common = stand.sides.common in
        let last = result_is_last left' (kind_of e.ty) u made f in
        let does : DoesAs left (kind_of d.ty) v made = subst (λ k. DoesAs left k v made) (ap kind_of (sym (matched_type known d e same)))
        (result_does_as ps common.memories.one_to_one left left' common.names (kind_of e.ty) v u made (operands_related d e same)
        (operand_in_kind w.scope (read c.files.now) (λ k z. stand.sides.target_fine.now z k) e) f) in
        ⊎_elim
        (λ r. inl (0, r.0, r.1, sym r.2, inr ((result_is_last left (kind_of d.ty) v r.0 r.1).2, last.2)))
        (λ wrongly. inr (wrong_made, Turn ∷ [], last.0, wrongly, refl, last.1))
        does

    terms_follow : (s t : Term) → term_fault known s t ≡ None → AllByRecursion IsOpen (successors_of s) → (made : Made) → Follows (term_step w.scope t y [] c.world) made
        → Follow (term_step w.scope s x [] a.world) made
    terms_follow (Ret d) (Ret e) h opened made f = returns d e (passed (matched known d e) (Unmatched d e) h) made f
    terms_follow RetVoid RetVoid h opened made f = let over = ap (λ (m : Made). m.after) f in inl (0, made, f, refl, inr (over, over))
    terms_follow (Br p) (Br q) h opened made f =
        let same : p ≡ q = same_name_true p q (one_kind (same_name p q) None h).0 in
        jumps p opened.0 made (subst (λ z. Follows (on_target z) made) (sym same) f)
    terms_follow (CondBr d) (CondBr e) h opened made f =
        let on_true = same_name d.on_true e.on_true in
        let on_false = same_name d.on_false e.on_false in
        let parts = one_kind (on_true && on_false) (operand_fault known d.condition e.condition) h in
        let first_same = same_name_true d.on_true e.on_true (left_true on_true on_false parts.0) in
        let second_same = same_name_true d.on_false e.on_false (right_true on_true on_false parts.0) in
        let v = operand_value w.scope (read a.files.now) d.condition in
        let u = operand_value w.scope (read c.files.now) e.condition in
        let less = operands_related d.condition e.condition
        (passed (matched known d.condition e.condition) (Unmatched d.condition e.condition) parts.1) in
        branches v u (side_of d.on_true d.on_false) (d.on_true ∷ d.on_false ∷ []) (side_among d.on_true d.on_false) less opened made
        (subst₂ (λ (i : Name) (j : Name). Follows (branch (operand_value w.scope (read c.files.now) e.condition) (side_of i j) (i ∷ j ∷ []) on_target) made) (sym first_same) (sym second_same) f)
    terms_follow (Switch d) (Switch e) h opened made f =
        let default = same_name d.default e.default in
        let cases = same_list same_case d.cases e.cases in
        let parts = one_kind (default && cases) (operand_fault known d.value e.value) h in
        let same_default = same_name_true d.default e.default (left_true default cases parts.0) in
        let same_cases = same_list_true same_case same_case_true d.cases e.cases (right_true default cases parts.0) in
        let same = passed (matched known d.value e.value) (Unmatched d.value e.value) parts.1 in
        let v = operand_value w.scope (read a.files.now) d.value in
        let u = operand_value w.scope (read c.files.now) e.value in
        let less = operands_related d.value e.value same in
        branches v u (case_of d.value.ty d.default d.cases) (d.default ∷ case_labels d.cases) (cases_among d.value.ty d.default d.cases) less opened made
        (subst (λ (ty : Ty). Follows (branch (operand_value w.scope (read c.files.now) e.value) (case_of ty d.default d.cases) (d.default ∷ case_labels d.cases) on_target) made) (sym (matched_type known d.value e.value same))
        (subst₂ (λ (i : Name) (j : List Case). Follows (branch (operand_value w.scope (read c.files.now) e.value) (case_of e.value.ty i j) (i ∷ case_labels j) on_target) made) (sym same_default) (sym same_cases) f))
    terms_follow Unreachable Unreachable h opened made f = follow_wrong made
    terms_follow s t h opened made f = absurd (some_is_none KindsDiffer h)

  -- ---- moves

  abbrev Answers : State → Made → Type 0
  Answers s made = Stays first second related_states s made ⊎ Matches first second related_states s made ⊎ GoesWrong first second related_states s made

  -- a source whose tree follows
  answers : (s : State) (tree : Asks) (made : Made) → asks first s ≡ tree → Follow tree made → Answers s made
  answers s tree made is (inl h) = inr (inl (h.0, h.1, subst (λ t. Follows t h.1) (sym is) h.2, h.3, h.4))
  answers s tree made is (inr h) = inr (inr (
    1,
    h.1,
    h.2,
    h.5,
    inr (h.0, [], subst (λ t. Follows t h.0) (sym is) h.3, sym h.4 ∙ sym (append-nil h.0.items), refl),
  ))

  -- where what is left are the steps before the terminators, and these
  pub ends_move : (b : AlignedBlock) → b.target.name ≡ b.source.name → LeadsOn w is_reached b.source
      → (n : ℕ) (known : Assertion) (ps : Pairing) (a c : Run) → Stand w ps known a c → IsGood (lines_judged w b n [] known)
      → Moves first second related_states 0 (running w.source b.source a []) (running w.target b.target c [])
  ends_move b names onward n known ps a c stand good = inr (λ made f.
      let at = end_good w b n known good in
      let lead = steps_lead w sound ps (steps_at n (hint_of_block w b).steps) a c known at.after stand at.steps in
      let opened = both_all (λ to. is_reached to ≡ true) (λ to. IsGood (edge_judged w b.source.name at.after to)) (successors_of b.source.term) onward at.edges in
      let source_step : Scope → Asks = λ scope. term_step scope b.source.term (frame_of w.source b.source a []) [] a.world in
      let target_step : Scope → Asks = λ scope. term_step scope b.target.term (frame_of w.target b.target c []) [] c.world in
      answers (running w.source b.source a []) (source_step w.scope) made (ap source_step of_first)
      (terms_follow b names at.after ps (with_ghost a lead.0) (with_ghost c lead.1) lead.2 b.source.term b.target.term at.agree opened made
      (subst (λ scope. Follows (target_step scope) made) of_second f)))
