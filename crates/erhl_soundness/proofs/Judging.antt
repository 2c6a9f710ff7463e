-- What a good check says: each test on its way was passed.
use Rattle.std.proofs.Common.{◌≡◌, Bool, true, false, ◌&&◌, not, ℕ, ◌+◌, List, [], ◌∷◌, None, refl, sym, ap, subst}
use Rattle.std.specs.Prelude.{filter}
use Rattle.std.specs.Option.{option_map}
use Rattle.std.specs.List.{AllByRecursion}
use Rattle.std.proofs.lemmas.Bool.{cond_both, not_from_false}
use Rattle.ir_types.specs.declared.names.Name.{Name}
use Rattle.ir_core.specs.declared.expressions.Reg.{Reg}
use Rattle.ir_core.specs.Functions.{successors_of}
use Rattle.ir_types.specs.Same.{same_name}
use Rattle.ir_types.specs.NameLaws.{all_true, same_name_true}
use Rattle.erhl_assert.specs.declared.facts.Assertion.{Assertion}
use Rattle.erhl_assert.specs.declared.verdict.Reason.TheVariants.{MissingFact, DiffLeft}
use Rattle.erhl_assert.specs.declared.verdict.Spot.TheVariants as spot
use Rattle.erhl_assert.specs.Sides.{has_reg}
use Rattle.erhl_assert.specs.Facts.{each_once}
use Rattle.erhl_assert.specs.Alignment.{Line, AlignedBlock, block_hint}
use Rattle.erhl_assert.specs.Allowed.{line_fault}
use Rattle.erhl_assert.specs.Postcondition.{after_line}
use Rattle.erhl_assert.specs.Edges.{is_old, without_old, edge_between, after_edge}
use Rattle.erhl_assert.specs.Course.{Gives, Course, and_then, tested, first_fault, Good, IsGood}
use Rattle.erhl_assert.specs.Growth.{put_in, over_line, over_edge}
use Rattle.erhl_assert.specs.Steps.{Beside, first_missing, after_steps, steps_at, steps_on}
use Rattle.erhl_assert.specs.Acceptance.{term_fault, missing_fault, first_printed, left_over, arrival_fault, along_edge, edge_judged, edges_judged, labels_once, hint_of_block, end_judged, lines_judged, block_judged}
use Rattle.erhl_assert.proofs.Courses.{good_parts, both_good, gives_parts, no_fault, line_gives}
use Rattle.erhl_assert.proofs.Edges.{put_in_gives, edge_gives}
use Rattle.erhl_soundness.proofs.Steps.{no_first, not_mapped}
use Rattle.erhl_soundness.proofs.Outside.{outside_filter}

-- what holds of each label once holds of all
module _ (P : Name → Type 0) where
  not_again : (z : Name) (ys : List Name) → P z → AllByRecursion P (filter (λ y. not (same_name z y)) ys) → AllByRecursion P ys
  not_again z [] here h = tt
  not_again z (q ∷ ys) here h =
      let rest = filter (λ y. not (same_name z y)) ys in
      cond_both (not (same_name z q)) (q ∷ rest) rest (λ zs. AllByRecursion P zs → AllByRecursion P (q ∷ ys))
      (λ e all. (all.0, not_again z ys here all.1))
      (λ e all. (subst P (same_name_true z q (not_false (same_name z q) e)) here, not_again z ys here all)) h
    where
      not_false : (b : Bool) → not b ≡ false → b ≡ true
      not_false true h = refl
      not_false false h = cc

  pub all_labels : (labels : List Name) → AllByRecursion P (labels_once labels) → AllByRecursion P labels
  all_labels [] h = tt
  all_labels (l ∷ labels) h = (h.0, all_labels labels (not_again l (labels_once labels) h.0 h.1))

none_printed : (rs : List Reg) → first_printed rs ≡ None → rs ≡ []
none_printed [] h = refl
none_printed (r ∷ rs) h = absurd (cc)

-- where no register is left over, one that isn't old and isn't wanted was outside
nothing_left : (wanted diff : List Reg) → left_over wanted diff ≡ [] → (r : Reg) → is_old r ≡ false → has_reg r wanted ≡ false → has_reg r diff ≡ false
nothing_left wanted diff none r new out =
    outside_filter (λ q. not (is_old q) && not (has_reg q wanted)) r diff
    (all_true (not_from_false (is_old r) new) (not_from_false (has_reg r wanted) out)) (ap (has_reg r) none)

module _ (w : Beside) where
  abbrev steps_of : AlignedBlock → ℕ → Assertion → Course Assertion
  steps_of b k known = after_steps w (steps_at k (hint_of_block w b).steps) known

  pub record LineIsGood (b : AlignedBlock) (k : ℕ) (l : Line) (ls : List Line) (known : Assertion) : Type 0 where
    pub after : Assertion
    pub steps : (steps_of b k known).ends ≡ Gives after
    pub allowed : line_fault w.scope.types after l ≡ None
    pub rest : IsGood (lines_judged w b (k + 1) ls (after_line w.scope.types after l))

  pub line_good : (b : AlignedBlock) (k : ℕ) (l : Line) (ls : List Line) (known : Assertion) → IsGood (lines_judged w b k (l ∷ ls) known) → LineIsGood b k l ls known
  line_good b k l ls known good =
      let next = lines_judged w b (k + 1) ls in
      let parts = good_parts b.source.name (spot.Line k) (and_then (steps_of b k known) (over_line w.scope.types l)) next good in
      let both = gives_parts (steps_of b k known) (over_line w.scope.types l) parts.0 parts.1 in
      let line = line_gives w.scope.types l both.0 parts.0 both.2 in
      record { after = both.0; steps = both.1; allowed = line.0; rest = subst (λ after. IsGood (next after)) line.1 parts.2 }

  edges_good : (from : Name) (known : Assertion) (labels : List Name) → IsGood (edges_judged w from known labels)
      → AllByRecursion (λ to. IsGood (edge_judged w from known to)) labels
  edges_good from known [] h = tt
  edges_good from known (to ∷ more) h =
      let both = both_good (edge_judged w from known to) (edges_judged w from known more) h in (both.0, edges_good from known more both.1)

  pub record EndIsGood (b : AlignedBlock) (k : ℕ) (known : Assertion) : Type 0 where
    pub after : Assertion
    pub steps : (steps_of b k known).ends ≡ Gives after
    pub agree : term_fault after b.source.term b.target.term ≡ None
    pub edges : AllByRecursion (λ to. IsGood (edge_judged w b.source.name after to)) (successors_of b.source.term)

  pub end_good : (b : AlignedBlock) (k : ℕ) (known : Assertion) → IsGood (lines_judged w b k [] known) → EndIsGood b k known
  end_good b k known good =
      let labels = successors_of b.source.term in
      let steps = good_parts b.source.name (spot.Line k) (steps_of b k known) (end_judged w b k) good in
      let fault = term_fault steps.0 b.source.term b.target.term in
      let next = λ (after : Assertion). edges_judged w b.source.name after (labels_once labels) in
      let term = good_parts b.source.name (spot.Line k) (tested fault steps.0) next steps.2 in
      let passed = no_fault fault steps.0 term.0 term.1 in
      record {
        after = steps.0;
        steps = steps.1;
        agree = passed.0;
        edges = all_labels (λ to. IsGood (edge_judged w b.source.name steps.0 to)) labels
            (edges_good b.source.name steps.0 (labels_once labels) (subst (λ after. IsGood (next after)) (sym passed.1) term.2));
      }

  abbrev wanted_at : Name → Assertion
  wanted_at to = (block_hint w.hint to).entry

  pub record EdgeIsGood (from to : Name) (known : Assertion) : Type 0 where
    pub after : Assertion
    pub steps : (after_steps w (steps_on to (block_hint w.hint from).edges) (after_edge known (edge_between w.source w.target from to))).ends ≡ Gives after
    pub in_src : first_missing (without_old after).src (wanted_at to).src ≡ None
    pub in_tgt : first_missing (without_old after).tgt (wanted_at to).tgt ≡ None
    pub inside : (r : Reg) → is_old r ≡ false → has_reg r (wanted_at to).diff ≡ false → has_reg r after.diff ≡ false

  pub edge_good : (from : Name) (known : Assertion) (to : Name) → IsGood (edge_judged w from known to) → EdgeIsGood from to known
  edge_good from known to good =
      let e = edge_between w.source w.target from to in
      let steps = after_steps w (steps_on to (block_hint w.hint from).edges) in
      let wanted = wanted_at to in
      let last = λ (after : Assertion). tested (arrival_fault wanted (without_old after)) after in
      let whole = good_parts from (spot.Edge to) (along_edge w from to known) (λ done. Good []) good in
      let crossing = gives_parts (over_edge e known) (λ crossed. and_then (steps crossed) last) whole.0 whole.1 in
      let stepping = gives_parts (steps crossing.0) last whole.0 crossing.2 in
      let over = edge_gives e known crossing.0 crossing.1 in
      let after = stepping.0 in
      let passed = no_fault (arrival_fault wanted (without_old after)) after whole.0 stepping.2 in
      let src = missing_fault (without_old after).src wanted.src in
      let tgt = missing_fault (without_old after).tgt wanted.tgt in
      let printed = first_printed (left_over wanted.diff after.diff) in
      let first = no_first src (first_fault (tgt ∷ option_map DiffLeft printed ∷ [])) passed.0 in
      let second = no_first tgt (first_fault (option_map DiffLeft printed ∷ [])) first.1 in
      let third = no_first (option_map DiffLeft printed) None second.1 in
      record {
        after = after;
        steps = subst (λ crossed. (steps crossed).ends ≡ Gives after) over stepping.1;
        in_src = not_mapped MissingFact (first_missing (without_old after).src wanted.src) first.0;
        in_tgt = not_mapped MissingFact (first_missing (without_old after).tgt wanted.tgt) second.0;
        inside = nothing_left wanted.diff after.diff (none_printed (left_over wanted.diff after.diff) (not_mapped DiffLeft printed third.0));
      }

  pub block_good : (b : AlignedBlock) → IsGood (block_judged w b) → IsGood (lines_judged w b 0 b.lines (each_once (hint_of_block w b).entry))
  block_good b good =
      let lists = (hint_of_block w b).entry in
      let start = good_parts b.source.name spot.Start (put_in lists) (lines_judged w b 0 b.lines) good in
      subst (λ known. IsGood (lines_judged w b 0 b.lines known)) (put_in_gives lists start.0 start.1) start.2
