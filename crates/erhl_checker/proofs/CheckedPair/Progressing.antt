-- A check, one step at a time, within the limit on facts.
use Rattle.std.proofs.Common.{◌≡◌, ◌∙◌, ℕ, ◌+◌, ◌<◌, ◌≤◌, true, false, cond, List, [], ◌∷◌, length, drop, get_or, Option, None, Some, Result, refl, sym, ap, subst}
use Rattle.std.proofs.lemmas.List.{drop_all}
use Rattle.std.specs.Borrow.{Bor}
use Rattle.ir_types.specs.declared.names.Name.{Name}
use Rattle.ir_types.specs.declared.named.NamedTy.{NamedTy}
use Rattle.ir_core.specs.declared.functions.Instr.{Instr}
use Rattle.ir_core.specs.declared.functions.Phi.{Phi}
use Rattle.ir_core.specs.Functions.{successors_of}
use Rattle.ir_machine.proofs.Standing.{drop_at}
use Rattle.erhl_assert.specs.declared.facts.Assertion.{Assertion}
use Rattle.erhl_assert.specs.declared.hints.HintStep.{HintStep}
use Rattle.erhl_assert.specs.declared.hints.Letter.{Letter}
use Rattle.erhl_assert.specs.declared.hints.PlacedStep.{PlacedStep}
use Rattle.erhl_assert.specs.declared.verdict.Reason.{Reason}
use Rattle.erhl_assert.specs.declared.verdict.Spot.{Spot}
use Rattle.erhl_assert.specs.declared.verdict.Spot.TheVariants as spot
use Rattle.erhl_assert.specs.declared.verdict.Verdict.{Verdict}
use Rattle.erhl_assert.specs.declared.verdict.Verdict.TheVariants as verdict
use Rattle.erhl_assert.specs.Alignment.{Line, AlignedBlock, block_hint}
use Rattle.erhl_assert.specs.Allowed.{line_fault}
use Rattle.erhl_assert.specs.Course.{Ends, Refuses, Gives, Course, and_then, tested, Judged, Good, are_too_many, within, answer_at, judged_answer}
use Rattle.erhl_assert.specs.Edges.{without_old, phis_at, edge_between, after_edge}
use Rattle.erhl_assert.specs.Growth.{put_in, over_line, over_edge}
use Rattle.erhl_assert.specs.Postcondition.{after_line}
use Rattle.erhl_assert.specs.Steps.{Beside, after_steps, steps_at, steps_on}
use Rattle.erhl_assert.specs.Acceptance.{term_fault, arrival_fault, along_edge, edge_judged, edges_judged, labels_once, hint_of_block, end_judged, lines_judged, block_judged}
use Rattle.erhl_assert.proofs.Courses.{within_more, within_none, within_refused, answer_placed, line_ends, line_refused}
use Rattle.erhl_assert.proofs.Judging.{edge_within, test_passes, test_refuses, also_passed, also_refused, also_stopped}
use Rattle.line_align.specs.Cursor.{on_source, on_target, left, aligned_line}
use Rattle.line_align.specs.Lent.{lines_under}
use Rattle.erhl_checker.specs.declared.checked_pair.ends.CheckEnd.{CheckEnd}
use Rattle.erhl_checker.specs.CheckedPair.Progress.{names_lent, ended, CameOf, Answers, fault_at, past_line, after_edge_steps, lines_answer, end_answer}

pub answers_so : {V : Type 0} {v w : Option V} → v ≡ w → (ended : Result V CheckEnd) → Answers ended v → Answers ended w
answers_so same ended is = subst (Answers ended) same is

-- ---- lines

module _ (types : List NamedTy) (l : Line) (known : Assertion) where
  pub line_within : line_fault types known l ≡ None → are_too_many (over_line types l known).sizes ≡ false → within (over_line types l known) ≡ Some (Gives (after_line types known l))
  line_within allowed few =
      ap (λ b. cond b None (Some (over_line types l known).ends)) few ∙ ap (λ e. Some e) (line_ends types l known allowed)

  pub line_refuses_so : (r : Reason) → line_fault types known l ≡ Some r → within (over_line types l known) ≡ Some (Refuses r)
  line_refuses_so r fault = ap (λ (c : Course Assertion). within c) (line_refused types l known r fault)

  pub line_over : are_too_many (over_line types l known).sizes ≡ true → within (over_line types l known) ≡ None
  line_over many = ap (λ b. cond b None (Some (over_line types l known).ends)) many

-- what comes of a course after the steps, where they refuse nothing
pub came_then : (c : Course Assertion) (next : Assertion → Course Assertion) (refusal : Option Reason) (after : Assertion) → within c ≡ Some (ended refusal after) → refusal ≡ None
    → (came : Result (Option Reason) CheckEnd) (known : Assertion) → CameOf came known (within (next after)) → CameOf came known (within (and_then c next))
came_then c next refusal after h none came known is =
    subst (CameOf came known) (sym (within_more c next after (h ∙ ap (λ o. Some (ended o after)) none))) is

-- ---- edges

tested_at : (o : Option Reason) (known : Assertion) → fault_at (within (tested o known)) ≡ Some o
tested_at None known = refl
tested_at (Some r) known = refl

-- behind the phis
module _ (w : Beside) (steps : List HintStep) (to : Name) (known : Assertion) where
  abbrev arriving : Assertion → Course Assertion
  arriving after = tested (arrival_fault (block_hint w.hint to).entry (without_old after)) after

  pub arrived : (after : Assertion) (fault : Option Reason) → within (after_steps w steps known) ≡ Some (Gives after)
      → fault ≡ arrival_fault (block_hint w.hint to).entry (without_old after) → fault_at (within (after_edge_steps w steps to known)) ≡ Some fault
  arrived after fault h is =
      ap fault_at (within_more (after_steps w steps known) arriving after h)
      ∙ tested_at (arrival_fault (block_hint w.hint to).entry (without_old after)) after
      ∙ ap (λ o. Some o) (sym is)

  pub arrival_refused : (r : Reason) → within (after_steps w steps known) ≡ Some (Refuses r) → fault_at (within (after_edge_steps w steps to known)) ≡ Some (Some r)
  arrival_refused r h = ap fault_at (within_refused (after_steps w steps known) arriving r h)

  pub arrival_stopped : within (after_steps w steps known) ≡ None → fault_at (within (after_edge_steps w steps to known)) ≡ None
  arrival_stopped h = ap fault_at (within_none (after_steps w steps known) arriving h)

abbrev answer_of_fault : Name → Spot → Option (Option Reason) → Option Verdict
answer_of_fault block where_ None = None
answer_of_fault block where_ (Some None) = Some verdict.Valid
answer_of_fault block where_ (Some (Some r)) = Some (verdict.Refused block where_ r)

at_fault : (block : Name) (where_ : Spot) (o : Option (Ends Assertion)) → answer_at block where_ o (λ done. Some verdict.Valid) ≡ answer_of_fault block where_ (fault_at o)
at_fault block where_ None = refl
at_fault block where_ (Some (Refuses r)) = refl
at_fault block where_ (Some (Gives known)) = refl

pub crossed_so : (w : Beside) (from to : Name) (known after : Assertion) (ps qs : List Phi) → ps ≡ phis_at to w.source → qs ≡ phis_at to w.target
    → after ≡ after_edge known (record { from = from; source = ps; target = qs })
    → are_too_many (over_edge (record { from = from; source = ps; target = qs }) known).sizes ≡ false
    → within (over_edge (edge_between w.source w.target from to) known) ≡ Some (Gives after)
crossed_so w from to known after ps qs source target is few =
    sym (ap (λ (xs : List Phi). within (over_edge (record { from = from; source = xs; target = qs }) known)) source
    ∙ ap (λ (xs : List Phi). within (over_edge (record { from = from; source = phis_at to w.source; target = xs }) known)) target)
    ∙ edge_within (record { from = from; source = ps; target = qs }) known after is few

-- over one edge
module _ (w : Beside) (from to : Name) (known : Assertion) where
  abbrev crossing : Course Assertion
  crossing = over_edge (edge_between w.source w.target from to) known

  abbrev behind : Assertion → Course Assertion
  behind crossed = after_edge_steps w (steps_on to (block_hint w.hint from).edges) to crossed

  pub edge_stopped : within (over_edge (edge_between w.source w.target from to) known) ≡ None → fault_at (within (along_edge w from to known)) ≡ None
  edge_stopped h = ap fault_at (within_none crossing behind h)

  pub edge_crossed : (steps : List HintStep) (crossed : Assertion) → steps ≡ steps_on to (block_hint w.hint from).edges
      → within (over_edge (edge_between w.source w.target from to) known) ≡ Some (Gives crossed)
      → fault_at (within (after_edge_steps w steps to crossed)) ≡ fault_at (within (along_edge w from to known))
  edge_crossed steps crossed its h =
      ap (λ ss. fault_at (within (after_edge_steps w ss to crossed))) its ∙ sym (ap fault_at (within_more crossing behind crossed h))

  edge_answers : judged_answer (edge_judged w from known to) ≡ answer_of_fault from (spot.Edge to) (fault_at (within (along_edge w from to known)))
  edge_answers =
      answer_placed from (spot.Edge to) (along_edge w from to known) (λ done. Good []) ∙ at_fault from (spot.Edge to) (within (along_edge w from to known))

  pub edge_valid : fault_at (within (along_edge w from to known)) ≡ Some None → judged_answer (edge_judged w from known to) ≡ Some verdict.Valid
  edge_valid h = edge_answers ∙ ap (answer_of_fault from (spot.Edge to)) h

  pub edge_refused : (r : Reason) → fault_at (within (along_edge w from to known)) ≡ Some (Some r)
      → judged_answer (edge_judged w from known to) ≡ Some (verdict.Refused from (spot.Edge to) r)
  edge_refused r h = edge_answers ∙ ap (answer_of_fault from (spot.Edge to)) h

  pub edge_unanswered : fault_at (within (along_edge w from to known)) ≡ None → judged_answer (edge_judged w from known to) ≡ None
  edge_unanswered h = edge_answers ∙ ap (answer_of_fault from (spot.Edge to)) h

-- the first edge of those that are left
module _ (w : Beside) (from to : Name) (more : List Name) (known : Assertion) where
  pub edges_more : judged_answer (edge_judged w from known to) ≡ Some verdict.Valid
      → judged_answer (edges_judged w from known (to ∷ more)) ≡ judged_answer (edges_judged w from known more)
  edges_more h = also_passed (edge_judged w from known to) (edges_judged w from known more) h

  pub edges_refused : (block : Name) (where_ : Spot) (why : Reason) → judged_answer (edge_judged w from known to) ≡ Some (verdict.Refused block where_ why)
      → judged_answer (edges_judged w from known (to ∷ more)) ≡ Some (verdict.Refused block where_ why)
  edges_refused block where_ why h = also_refused (edge_judged w from known to) (edges_judged w from known more) block where_ why h

  pub edges_stopped : judged_answer (edge_judged w from known to) ≡ None → judged_answer (edges_judged w from known (to ∷ more)) ≡ None
  edges_stopped h = also_stopped (edge_judged w from known to) (edges_judged w from known more) h

-- an edge of the walk, by what it answers
module _ (w : Beside) (from : Name) (known : Assertion) (xs : List (Bor Name)) (i : ℕ) (whole : Option Verdict)
    (so_far : judged_answer (edges_judged w from known (names_lent (drop i xs))) ≡ whole)
    (x : Bor Name) (inside : i < length xs) (is : x ≡ get_or xs i x) where
  from_edge : judged_answer (edges_judged w from known (x.now ∷ names_lent (drop (i + 1) xs))) ≡ whole
  from_edge = sym (ap (λ (ys : List (Bor Name)). judged_answer (edges_judged w from known (names_lent ys))) (drop_at xs i x inside is)) ∙ so_far

  pub edge_stops : judged_answer (edge_judged w from known x.now) ≡ None → whole ≡ None
  edge_stops h = sym from_edge ∙ edges_stopped w from x.now (names_lent (drop (i + 1) xs)) known h

  pub edge_refuses : (v : Verdict) (block : Name) (where_ : Spot) (why : Reason) → judged_answer (edge_judged w from known x.now) ≡ Some v → v ≡ verdict.Refused block where_ why
      → whole ≡ Some (verdict.Refused block where_ why)
  edge_refuses v block where_ why h refused =
      sym from_edge ∙ edges_refused w from x.now (names_lent (drop (i + 1) xs)) known block where_ why (h ∙ ap (λ v. Some v) refused)

  pub edge_passes : (v : Verdict) → judged_answer (edge_judged w from known x.now) ≡ Some v → v ≡ verdict.Valid
      → judged_answer (edges_judged w from known (names_lent (drop (i + 1) xs))) ≡ whole
  edge_passes v h valid = sym (edges_more w from x.now (names_lent (drop (i + 1) xs)) known (h ∙ ap (λ v. Some v) valid)) ∙ from_edge

-- ---- a block

module _ (w : Beside) (b : AlignedBlock) where
  abbrev steps : List PlacedStep
  steps = (hint_of_block w b).steps

  -- at the terminators
  module _ (k : ℕ) (known : Assertion) where
    abbrev edges_on : Assertion → Judged
    edges_on after = edges_judged w b.source.name after (labels_once (successors_of b.source.term))

    pub end_refused : (r : Reason) → term_fault known b.source.term b.target.term ≡ Some r → end_answer w b k known ≡ Some (verdict.Refused b.source.name (spot.Line k) r)
    end_refused r h = test_refuses b.source.name (spot.Line k) (term_fault known b.source.term b.target.term) known edges_on r h

    pub end_passed : (labels : List Name) → labels ≡ labels_once (successors_of b.source.term) → term_fault known b.source.term b.target.term ≡ None
        → judged_answer (edges_judged w b.source.name known labels) ≡ end_answer w b k known
    end_passed labels are h =
        ap (λ xs. judged_answer (edges_judged w b.source.name known xs)) are
        ∙ sym (test_passes b.source.name (spot.Line k) (term_fault known b.source.term b.target.term) known edges_on h)

  pub lines_one : (k : ℕ) (l : Line) (ls : List Line) (known : Assertion)
      → lines_answer w b k (l ∷ ls) known ≡ answer_at b.source.name (spot.Line k) (past_line w (steps_at k steps) l known) (lines_answer w b (k + 1) ls)
  lines_one k l ls known =
      answer_placed b.source.name (spot.Line k) (and_then (after_steps w (steps_at k steps) known) (over_line w.scope.types l)) (lines_judged w b (k + 1) ls)

  pub lines_none : (k : ℕ) (known : Assertion)
      → lines_answer w b k [] known ≡ answer_at b.source.name (spot.Line k) (within (after_steps w (steps_at k steps) known)) (end_answer w b k)
  lines_none k known = answer_placed b.source.name (spot.Line k) (after_steps w (steps_at k steps) known) (end_judged w b k)

  -- a line of the walk, by how its steps end
  module _ (i : ℕ) (letters : List Letter) (l : Letter) (xs ys : List Instr) (known : Assertion) (here : List HintStep) (whole : Option Verdict)
      (so_far : lines_answer w b i (lines_under (drop i letters) xs ys) known ≡ whole)
      (at : drop i letters ≡ l ∷ drop (i + 1) letters)
      (is : here ≡ steps_at i steps) where
    abbrev after_end : Option (Ends Assertion) → Option Verdict
    after_end e = answer_at b.source.name (spot.Line i) e (lines_answer w b (i + 1) (lines_under (drop (i + 1) letters) (left (on_source l) xs) (left (on_target l) ys)))

    from_here : after_end (past_line w here (aligned_line l xs ys) known) ≡ whole
    from_here =
        ap (λ (ss : List HintStep). after_end (past_line w ss (aligned_line l xs ys) known)) is
        ∙ sym (lines_one i (aligned_line l xs ys) (lines_under (drop (i + 1) letters) (left (on_source l) xs) (left (on_target l) ys)) known)
        ∙ sym (ap (λ (ls : List Letter). lines_answer w b i (lines_under ls xs ys) known) at)
        ∙ so_far

    pub line_stops : past_line w here (aligned_line l xs ys) known ≡ None → whole ≡ None
    line_stops none = sym from_here ∙ ap after_end none

    module _ (refusal : Option Reason) (after : Assertion) (so : past_line w here (aligned_line l xs ys) known ≡ Some (ended refusal after)) where
      pub line_done : refusal ≡ None → (us vs : List Instr) → us ≡ left (on_source l) xs → vs ≡ left (on_target l) ys
          → lines_answer w b (i + 1) (lines_under (drop (i + 1) letters) us vs) after ≡ whole
      line_done none us vs at_us at_vs =
          ap (λ (zs : List Instr). lines_answer w b (i + 1) (lines_under (drop (i + 1) letters) zs vs) after) at_us
          ∙ ap (λ (zs : List Instr). lines_answer w b (i + 1) (lines_under (drop (i + 1) letters) (left (on_source l) xs) zs) after) at_vs
          ∙ sym (ap after_end (so ∙ ap (λ o. Some (ended o after)) none))
          ∙ from_here

      pub line_refuses : (r : Reason) → refusal ≡ Some r → whole ≡ Some (verdict.Refused b.source.name (spot.Line i) r)
      line_refuses r some = sym from_here ∙ ap after_end (so ∙ ap (λ o. Some (ended o after)) some)

  -- no line is left
  module _ (k n : ℕ) (ls : List Letter) (xs ys : List Instr) (known : Assertion) (here : List HintStep) (at_last : k ≡ n) (past : length ls ≤ n) (is : here ≡ steps_at n steps) where
    abbrev left_from : ℕ → Option Verdict
    left_from i = lines_answer w b i (lines_under (drop i ls) xs ys) known

    at_terms_left : answer_at b.source.name (spot.Line n) (within (after_steps w here known)) (end_answer w b n) ≡ left_from k
    at_terms_left =
        ap (λ (ss : List HintStep). answer_at b.source.name (spot.Line n) (within (after_steps w ss known)) (end_answer w b n)) is
        ∙ sym (lines_none n known)
        ∙ sym (ap (λ (rest : List Letter). lines_answer w b n (lines_under rest xs ys) known) (drop_all n ls past))
        ∙ sym (ap left_from at_last)

    pub lines_end : (whole : Option Verdict) → lines_answer w b k (lines_under (drop k ls) xs ys) known ≡ whole
        → (ended : Result Verdict CheckEnd)
        → Answers ended (answer_at b.source.name (spot.Line n) (within (after_steps w here known)) (end_answer w b n)) → Answers ended whole
    lines_end whole so_far ended at_terms = subst (Answers ended) (at_terms_left ∙ so_far) at_terms

  -- from the start
  begins : judged_answer (block_judged w b) ≡ answer_at b.source.name spot.Start (within (put_in (hint_of_block w b).entry)) (lines_answer w b 0 b.lines)
  begins = answer_placed b.source.name spot.Start (put_in (hint_of_block w b).entry) (lines_judged w b 0 b.lines)

  abbrev from_end : Option (Ends Assertion) → Option Verdict
  from_end e = answer_at b.source.name spot.Start e (lines_answer w b 0 b.lines)

  pub begun : (entry known : Assertion) → entry ≡ (hint_of_block w b).entry → within (put_in entry) ≡ Some (Gives known)
      → lines_answer w b 0 b.lines known ≡ judged_answer (block_judged w b)
  begun entry known is h = sym (ap from_end (sym (ap (λ a. within (put_in a)) is) ∙ h)) ∙ sym begins

  pub not_begun : (entry : Assertion) → entry ≡ (hint_of_block w b).entry → within (put_in entry) ≡ None → judged_answer (block_judged w b) ≡ None
  not_begun entry is h = begins ∙ ap from_end (sym (ap (λ a. within (put_in a)) is) ∙ h)
