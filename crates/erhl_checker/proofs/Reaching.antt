-- The blocks that are reached, one at a time.
use Rattle.std.proofs.Common.{◌≡◌, ◌∙◌, ℕ, ◌+◌, ◌<◌, ◌++◌, Bool, true, false, cond, List, [], ◌∷◌, length, map, drop, get_or, Option, None, Some, refl, sym, ap}
use Rattle.std.specs.Prelude.{slice_get, Err}
use Rattle.ir_types.specs.declared.names.Name.{Name}
use Rattle.ir_core.specs.declared.functions.Function.{Function}
use Rattle.ir_core.specs.declared.modules.Module.{Module}
use Rattle.ir_core.specs.Modules.{definitions_of}
use Rattle.ir_values.specs.Constants.{Scope}
use Rattle.ir_machine.specs.State.{scope_of}
use Rattle.ir_types.specs.Same.{same_list}
use Rattle.erhl_assert.specs.declared.facts.Fact.{Fact}
use Rattle.erhl_assert.specs.declared.hints.FunctionHint.{FunctionHint}
use Rattle.erhl_assert.specs.declared.hints.Hint.{Hint}
use Rattle.erhl_assert.specs.declared.hints.HintBlock.{HintBlock}
use Rattle.erhl_assert.specs.declared.hints.Hints.{Hints}
use Rattle.erhl_assert.specs.declared.verdict.Difference.TheVariants as difference
use Rattle.erhl_assert.specs.declared.verdict.ModuleVerdict.TheVariants as modules
use Rattle.erhl_assert.specs.declared.verdict.Reason.{Reason}
use Rattle.erhl_assert.specs.declared.verdict.Reason.TheVariants.{MissingFact, AlignmentDiffers}
use Rattle.erhl_assert.specs.declared.verdict.Spot.{Spot}
use Rattle.erhl_assert.specs.declared.verdict.Spot.TheVariants as spot
use Rattle.erhl_assert.specs.declared.verdict.Verdict.{Verdict}
use Rattle.erhl_assert.specs.declared.verdict.Verdict.TheVariants as verdict
use Rattle.flow_solver.specs.Near.{reached_nodes}
use Rattle.definedness.specs.Graph.{flow_of}
use Rattle.erhl_assert.specs.Alignment.{AlignedBlock, Aligned, alignment}
use Rattle.erhl_assert.specs.Course.{Good, judged_answer}
use Rattle.erhl_assert.specs.Steps.{Rules, Beside, beside}
use Rattle.erhl_assert.specs.Acceptance.{first_missing_of, entry_fault, hint_of_block, block_judged, blocks_judged, reached_judged, aligned_judged, function_answer, same_signature, functions_answer, definitions_answer}
use Rattle.erhl_assert.proofs.Judging.{answer_then, answer_also, test_passes, test_refuses}
use Rattle.ir_machine.proofs.Standing.{drop_at}
use Rattle.line_align.specs.declared.alignment.AlignedBlock.{AlignedBlock as LentBlock}
use Rattle.line_align.specs.declared.alignment.AlignEnd.{AlignEnd}
use Rattle.line_align.specs.declared.alignment.AlignEnd.TheVariants as align_end
use Rattle.line_align.specs.Lent.{lent_block, Answers as LentAnswers}
use Rattle.erhl_checker.specs.Reached.{from_entry_answer}

-- the first block of those that are left
module _ (w : Beside) (b : AlignedBlock) (bs : List AlignedBlock) (marks : List Bool) where
  blocks_one : (m : Bool) → judged_answer (blocks_judged w (m ∷ marks) (b ∷ bs)) ≡ answer_then (judged_answer (cond m (block_judged w b) (Good []))) (judged_answer (blocks_judged w marks bs))
  blocks_one true = answer_also (block_judged w b) (blocks_judged w marks bs)
  blocks_one false = refl

  module _ (m : Bool) where
    abbrev then_others : Option Verdict → Option Verdict
    then_others v = answer_then v (judged_answer (blocks_judged w marks bs))

    pub blocks_more : judged_answer (cond m (block_judged w b) (Good [])) ≡ Some verdict.Valid
        → judged_answer (blocks_judged w (m ∷ marks) (b ∷ bs)) ≡ judged_answer (blocks_judged w marks bs)
    blocks_more h = blocks_one m ∙ ap then_others h

    pub blocks_refused : (block : Name) (where_ : Spot) (why : Reason) → judged_answer (cond m (block_judged w b) (Good [])) ≡ Some (verdict.Refused block where_ why)
        → judged_answer (blocks_judged w (m ∷ marks) (b ∷ bs)) ≡ Some (verdict.Refused block where_ why)
    blocks_refused block where_ why h = blocks_one m ∙ ap then_others h

    pub blocks_stopped : judged_answer (cond m (block_judged w b) (Good [])) ≡ None → judged_answer (blocks_judged w (m ∷ marks) (b ∷ bs)) ≡ None
    blocks_stopped h = blocks_one m ∙ ap then_others h

-- a block of the walk that is valid, or isn't reached
pub block_passes : (w : Beside) (bs : List LentBlock) (i : ℕ) (rest after : List Bool) (m : Bool) (whole : Option Verdict)
    → judged_answer (blocks_judged w rest (map lent_block (drop i bs))) ≡ whole
    → (b : LentBlock) → i < length bs → b ≡ get_or bs i b → rest ≡ m ∷ after → (v : Verdict) → judged_answer (cond m (block_judged w (lent_block b)) (Good [])) ≡ Some v → v ≡ verdict.Valid
    → judged_answer (blocks_judged w after (map lent_block (drop (i + 1) bs))) ≡ whole
block_passes w bs i rest after m whole so_far b inside is marks v h valid =
    sym (blocks_more w (lent_block b) (map lent_block (drop (i + 1) bs)) after m (h ∙ ap (λ v. Some v) valid))
    ∙ sym (ap (λ (xs : List LentBlock). judged_answer (blocks_judged w (m ∷ after) (map lent_block xs))) (drop_at bs i b inside is))
    ∙ sym (ap (λ ms. judged_answer (blocks_judged w ms (map lent_block (drop i bs)))) marks)
    ∙ so_far

-- ---- what the entry claims

pub source_claims : (fs gs : List Fact) (f : Fact) → Some f ≡ slice_get fs 0 → Some (MissingFact f) ≡ first_missing_of (fs ++ gs)
source_claims [] gs f h = absurd (cc)
source_claims (x ∷ fs) gs f h = cc

pub target_claims : (fs gs : List Fact) (f : Fact) → None ≡ slice_get fs 0 → Some f ≡ slice_get gs 0 → Some (MissingFact f) ≡ first_missing_of (fs ++ gs)
target_claims [] [] f none h = absurd (cc)
target_claims [] (g ∷ gs) f none h = cc
target_claims (x ∷ fs) gs f none h = absurd (cc)

pub nothing_claimed : (fs gs : List Fact) → None ≡ slice_get fs 0 → None ≡ slice_get gs 0 → None ≡ first_missing_of (fs ++ gs)
nothing_claimed [] [] none h = refl
nothing_claimed [] (g ∷ gs) none h = absurd (cc)
nothing_claimed (x ∷ fs) gs none h = absurd (cc)

module _ (w : Beside) (b : AlignedBlock) (bs : List AlignedBlock) where
  pub entry_refused : (r : Reason) → Some r ≡ entry_fault (hint_of_block w b).entry → from_entry_answer w b bs ≡ Some (verdict.Refused b.source.name spot.Start r)
  entry_refused r h =
      test_refuses b.source.name spot.Start (entry_fault (hint_of_block w b).entry) (hint_of_block w b).entry (λ done. blocks_judged w (reached_nodes (flow_of w.source)) bs) r (sym h)

  pub entry_passed : (marks : List Bool) → marks ≡ reached_nodes (flow_of w.source) → None ≡ entry_fault (hint_of_block w b).entry
      → judged_answer (blocks_judged w marks bs) ≡ from_entry_answer w b bs
  entry_passed marks are h =
      ap (λ ms. judged_answer (blocks_judged w ms bs)) are
      ∙ sym (test_passes b.source.name spot.Start (entry_fault (hint_of_block w b).entry) (hint_of_block w b).entry (λ done. blocks_judged w (reached_nodes (flow_of w.source)) bs) (sym h))

-- ---- what aligns, and what doesn't, under the blocks of the hint

module _ (rules : Rules) (scope : Scope) (f g : Function) (hint : Hint) (hints : List HintBlock) (its : hints ≡ hint.blocks) where
  abbrev under : List HintBlock → Beside
  under bs = beside rules scope f g (record { blocks = bs })

  pub aligned_under : (bs : List AlignedBlock) → Aligned bs ≡ alignment (record { blocks = hints }) f g
      → judged_answer (reached_judged (beside rules scope f g (record { blocks = hints })) bs) ≡ function_answer (beside rules scope f g hint)
  aligned_under bs so = ap (λ a. judged_answer (aligned_judged (under hints) a)) so ∙ ap (λ bs. function_answer (under bs)) its

  pub differs_under : (e : AlignEnd) (x : Name) → e ≡ align_end.Differs x → LentAnswers (Err e) (alignment (record { blocks = hints }) f g)
      → function_answer (beside rules scope f g hint) ≡ Some (verdict.Refused x spot.Start AlignmentDiffers)
  differs_under (align_end.Differs y) x is so =
      let same : y ≡ x = cc in
      sym (ap (λ a. judged_answer (aligned_judged (under hints) a)) so ∙ ap (λ bs. function_answer (under bs)) its)
      ∙ ap (λ z. Some (verdict.Refused z spot.Start AlignmentDiffers)) same
  differs_under align_end.Memory x is so = absurd (cc)

-- two modules whose functions have one signature each
pub module_under : (rules : Rules) (source target : Module) (hints : Hints) (found : List FunctionHint) (fs gs : List Function) → found ≡ hints.functions → fs ≡ definitions_of source → gs ≡ definitions_of target
    → same_list same_signature fs gs ≡ true → functions_answer rules (scope_of source) (record { functions = found }) fs gs ≡ definitions_answer rules source target hints
module_under rules source target hints found fs gs all ours theirs same =
    ap (λ xs. functions_answer rules (scope_of source) (record { functions = xs }) fs gs) all
    ∙ ap (λ xs. functions_answer rules (scope_of source) hints xs gs) ours
    ∙ ap (λ xs. functions_answer rules (scope_of source) hints (definitions_of source) xs) theirs
    ∙ sym (ap (λ b. cond b (functions_answer rules (scope_of source) hints (definitions_of source) (definitions_of target)) (Some (modules.Differs difference.Functions)))
    (sym (ap (λ xs. same_list same_signature xs gs) ours ∙ ap (λ xs. same_list same_signature (definitions_of source) xs) theirs) ∙ same))
