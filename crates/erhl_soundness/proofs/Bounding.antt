-- What a course comes to has no more facts than the greatest of its sizes, or than were known before.
use Rattle.std.proofs.Common.{ℕ, suc, ◌+◌, ◌≤◌, Bool, true, false, not, cond, filter, List, [], ◌∷◌, ◌++◌, length, Option, None, Some, subst, arith}
use Rattle.std.specs.List.{AllByRecursion, filter_map, list_all}
use Rattle.std.specs.Option.{is_none}
use Rattle.std.proofs.lemmas.Bool.{cond_both}
use Rattle.ir_types.specs.declared.named.NamedTy.{NamedTy}
use Rattle.ir_types.specs.declared.names.Name.{Name}
use Rattle.ir_core.specs.declared.functions.Instr.{Instr}
use Rattle.ir_core.specs.declared.functions.Phi.{Phi}
use Rattle.ir_core.specs.declared.expressions.Reg.{Reg}
use Rattle.erhl_assert.specs.declared.fact_set.Kill.{Kill}
use Rattle.erhl_assert.specs.declared.fact_set.Kill.TheVariants as kill
use Rattle.erhl_assert.specs.declared.facts.Fact.{Fact}
use Rattle.erhl_assert.specs.declared.facts.Assertion.{Assertion}
use Rattle.erhl_assert.specs.declared.facts.Side.{Side}
use Rattle.erhl_assert.specs.declared.facts.Side.TheVariants.{Src, Tgt}
use Rattle.erhl_assert.specs.declared.hints.RuleStep.{RuleStep}
use Rattle.erhl_assert.specs.declared.hints.HintStep.{HintStep}
use Rattle.erhl_assert.specs.declared.hints.HintStep.TheVariants.{Rule, Ghost as GhostOf, Same as SameAs}
use Rattle.erhl_assert.specs.declared.verdict.Reason.{Reason}
use Rattle.erhl_assert.specs.declared.verdict.Reason.TheVariants.{RuleUnfit}
use Rattle.ir_core.specs.Expressions.{Expr0}
use Rattle.ir_core.specs.Same.{same_reg}
use Rattle.erhl_assert.specs.Facts.{has_fact, fact_names, fact_has, on_side, without}
use Rattle.erhl_assert.specs.Kills.{all_killed, is_private, is_unique_of, killed, loads_of, spares}
use Rattle.erhl_assert.specs.Edges.{Edge, is_old, without_old, as_old, is_of_phi, past_phis, phi_facts, phi_kills, diff_over}
use Rattle.erhl_assert.specs.Alignment.{Line}
use Rattle.erhl_assert.specs.Allowed.{line_fault}
use Rattle.erhl_assert.specs.Postcondition.{diff_after, line_adds, line_kills, without_reg}
use Rattle.erhl_assert.specs.Course.{Ends, Refuses, Gives, Course, gives, refuses, after_ends, and_then, tested}
use Rattle.erhl_assert.specs.Growth.{size, facts_of, adds, adds_all, put_in, over_side, over_allowed, over_line, without_phis, over_edge}
use Rattle.erhl_assert.specs.Steps.{Meaning, Beside, rule_named, first_missing, concluded, after_rule, choice, as_new, chosen, ghost_fault, same_fault, after_step, after_steps}
use Rattle.erhl_soundness.specs.Laws.{SizesBoundWhatIsKnown}

all_first : (P : ℕ → Type 0) (xs ys : List ℕ) → AllByRecursion P (xs ++ ys) → AllByRecursion P xs
all_first P [] ys all = tt
all_first P (x ∷ xs) ys all = (all.0, all_first P xs ys all.1)

all_second : (P : ℕ → Type 0) (xs ys : List ℕ) → AllByRecursion P (xs ++ ys) → AllByRecursion P ys
all_second P [] ys all = all
all_second P (x ∷ xs) ys all = all_second P xs ys all.1

filter_shorter : (p : Fact → Bool) (fs : List Fact) → length (filter p fs) ≤ length fs
filter_shorter p [] = omega arith
filter_shorter p (f ∷ fs) =
    let rest : length (filter p fs) ≤ length fs = filter_shorter p fs in
    cond_both (p f) (f ∷ filter p fs) (filter p fs) (λ (gs : List Fact). length gs ≤ suc (length fs)) (λ e. omega arith) (λ e. omega arith)

module _ (n : ℕ) where
  abbrev AtMost : List ℕ → Type 0
  AtMost sizes = AllByRecursion (λ s. s ≤ n) sizes

  abbrev EndAtMost : Ends Assertion → Type 0
  EndAtMost (Refuses r) = Unit {0}
  EndAtMost (Gives known) = size known ≤ n

  abbrev IsBounded : Course Assertion → Type 0
  IsBounded c = AtMost c.sizes → EndAtMost c.ends

  first_sizes : (sizes : List ℕ) (e : Ends Assertion) (next : Assertion → Course Assertion) → AtMost (after_ends sizes e next).sizes → AtMost sizes
  first_sizes sizes (Refuses r) next all = all
  first_sizes sizes (Gives known) next all = all_first (λ s. s ≤ n) sizes (next known).sizes all

  after_ends_bounded : (sizes : List ℕ) (e : Ends Assertion) (next : Assertion → Course Assertion) → EndAtMost e
      → ((known : Assertion) → size known ≤ n → IsBounded (next known)) → IsBounded (after_ends sizes e next)
  after_ends_bounded sizes (Refuses r) next h on all = tt
  after_ends_bounded sizes (Gives known) next h on all = on known h (all_second (λ s. s ≤ n) sizes (next known).sizes all)

  and_then_bounded : (c : Course Assertion) (next : Assertion → Course Assertion) → IsBounded c
      → ((known : Assertion) → size known ≤ n → IsBounded (next known)) → IsBounded (and_then c next)
  and_then_bounded c next h on all = after_ends_bounded c.sizes c.ends next (h (first_sizes c.sizes c.ends next all)) on all

  adds_bounded : (side : Side) (f : Fact) (known : Assertion) → size known ≤ n → IsBounded (adds side f known)
  adds_bounded Src f known h =
      elim (has_fact f known.src) as (λ (b : Bool).
      AtMost (cond b [] ((length (cond b known.src (known.src ++ f ∷ [])) + length known.tgt) ∷ []))
      → length (cond b known.src (known.src ++ f ∷ [])) + length known.tgt ≤ n) [ true ↦ λ all. h | false ↦ λ all. all.0 ]
  adds_bounded Tgt f known h =
      elim (has_fact f known.tgt) as (λ (b : Bool).
      AtMost (cond b [] ((length known.src + length (cond b known.tgt (known.tgt ++ f ∷ []))) ∷ []))
      → length known.src + length (cond b known.tgt (known.tgt ++ f ∷ [])) ≤ n) [ true ↦ λ all. h | false ↦ λ all. all.0 ]

  -- kills leave no more
  kill_shorter : (k : Kill) (fs : List Fact) → length (killed k fs) ≤ length fs
  kill_shorter (kill.Naming r) fs = filter_shorter (λ f. not (fact_names r f)) fs
  kill_shorter (kill.Unique r) fs = filter_shorter (λ f. not (is_unique_of r f)) fs
  kill_shorter (kill.Stored address of) fs = filter_shorter (λ f. list_all (spares fs address) (loads_of f)) fs
  kill_shorter kill.Called fs = filter_shorter (λ f. list_all (λ p. is_private fs p.atom) (loads_of f)) fs

  kills_shorter : (ks : List Kill) (fs : List Fact) → length (all_killed ks fs) ≤ length fs
  kills_shorter [] fs = omega arith
  kills_shorter (k ∷ ks) fs =
      let first : length (killed k fs) ≤ length fs = kill_shorter k fs in
      let rest : length (all_killed ks (killed k fs)) ≤ length (killed k fs) = kills_shorter ks (killed k fs) in
      omega (arith, first, rest)

  all_bounded : (side : Side) (fs : List Fact) (known : Assertion) → size known ≤ n → IsBounded (adds_all side fs known)
  all_bounded side [] known h = λ all. h
  all_bounded side (f ∷ fs) known h = and_then_bounded (adds side f known) (adds_all side fs) (adds_bounded side f known h) (λ known' less. all_bounded side fs known' less)

  fewer_bounded : (side : Side) (change : List Fact → List Fact) → ((fs : List Fact) → length (change fs) ≤ length fs) → (known : Assertion) → size known ≤ n
      → size (on_side side change known) ≤ n
  fewer_bounded Src change shorter known h =
      let fewer : length (change known.src) ≤ length known.src = shorter known.src in
      let had : length known.src + length known.tgt ≤ n = h in
      omega (arith, fewer, had)
  fewer_bounded Tgt change shorter known h =
      let fewer : length (change known.tgt) ≤ length known.tgt = shorter known.tgt in
      let had : length known.src + length known.tgt ≤ n = h in
      omega (arith, fewer, had)

  side_bounded : (types : List NamedTy) (one_sided : Bool) (side : Side) (o : Option Instr) (known : Assertion) → size known ≤ n → IsBounded (over_side types one_sided side o known)
  side_bounded types one_sided side None known h = λ all. h
  side_bounded types one_sided side (Some l) known h =
      all_bounded side (line_adds types one_sided l) (on_side side (all_killed (line_kills l)) known) (fewer_bounded side (all_killed (line_kills l)) (kills_shorter (line_kills l)) known h)

  allowed_bounded : (types : List NamedTy) (l : Line) (known : Assertion) → size known ≤ n → IsBounded (over_allowed types l known)
  allowed_bounded types l known h =
      let source : Assertion → Course Assertion = over_side types (is_none l.target) Src l.source in
      let target : Assertion → Course Assertion = over_side types (is_none l.source) Tgt l.target in
      let last : Assertion → Course Assertion = λ after. gives (record after { diff = diff_after known l.source l.target }) in
      and_then_bounded (source known) (λ half. and_then (target half) last) (side_bounded types (is_none l.target) Src l.source known h)
      (λ half less. and_then_bounded (target half) last (side_bounded types (is_none l.source) Tgt l.target half less) (λ after less' all. less'))

  tested_bounded : (o : Option Reason) (known : Assertion) → size known ≤ n → IsBounded (tested o known)
  tested_bounded None known h = λ all. h
  tested_bounded (Some r) known h = λ all. tt

  line_bounded : (types : List NamedTy) (l : Line) (known : Assertion) → size known ≤ n → IsBounded (over_line types l known)
  line_bounded types l known h =
      and_then_bounded (tested (line_fault types known l) known) (over_allowed types l) (tested_bounded (line_fault types known l) known h) (λ known' less. allowed_bounded types l known' less)

  concluded_bounded : (o : Option Fact) (step : RuleStep) (known : Assertion) → size known ≤ n → IsBounded (concluded o step known)
  concluded_bounded (Some f) step known h = λ all. tt
  concluded_bounded None step known h = adds_bounded step.side step.schema.to known h

  rule_bounded : (w : Beside) (o : Option Meaning) (step : RuleStep) (known : Assertion) → size known ≤ n → IsBounded (after_rule o w.scope step known)
  rule_bounded w None step known h = λ all. tt
  rule_bounded w (Some r) step known h =
      cond_both (r.takes w.scope step.schema) (concluded (first_missing (facts_of step.side known) step.schema.from) step known) (refuses (RuleUnfit step.rule)) IsBounded
      (λ e. concluded_bounded (first_missing (facts_of step.side known) step.schema.from) step known h)
      (λ e all. tt)

  without_bounded : (p q : Reg → Bool) (known : Assertion) (diff : List Reg) → size known ≤ n
      → size (record { src = without p known.src; tgt = without q known.tgt; diff = diff }) ≤ n
  without_bounded p q known diff h =
      let fewer : length (filter (λ f. not (fact_has p f)) known.src) ≤ length known.src = filter_shorter (λ f. not (fact_has p f)) known.src in
      let fewer' : length (filter (λ f. not (fact_has q f)) known.tgt) ≤ length known.tgt = filter_shorter (λ f. not (fact_has q f)) known.tgt in
      let had : length known.src + length known.tgt ≤ n = h in
      omega arith

  past_shorter : (from : Name) (ps : List Phi) (fs : List Fact) → length (past_phis from ps fs) ≤ length fs
  past_shorter from ps fs =
      let fewer : length (without (is_of_phi ps) fs) ≤ length fs = filter_shorter (λ f. not (fact_has (is_of_phi ps) f)) fs in
      let rest : length (past_phis from ps fs) ≤ length (without (is_of_phi ps) fs) = kills_shorter (phi_kills from ps) (without (is_of_phi ps) fs) in
      omega (arith, fewer, rest)

  phis_bounded : (e : Edge) (known : Assertion) → size known ≤ n → size (without_phis e known) ≤ n
  phis_bounded e known h =
      let source : length (past_phis e.from e.source known.src) ≤ length known.src = past_shorter e.from e.source known.src in
      let target : length (past_phis e.from e.target known.tgt) ≤ length known.tgt = past_shorter e.from e.target known.tgt in
      let had : length known.src + length known.tgt ≤ n = h in
      omega (arith, source, target, had)

  put_in_bounded : (lists : Assertion) → IsBounded (put_in lists)
  put_in_bounded lists =
      let none : Assertion = record { src = []; tgt = []; diff = lists.diff } in
      and_then_bounded (adds_all Src lists.src none) (adds_all Tgt lists.tgt) (all_bounded Src lists.src none (omega arith)) (λ known less. all_bounded Tgt lists.tgt known less)

  edge_bounded : (e : Edge) (known : Assertion) → size known ≤ n → IsBounded (over_edge e known)
  edge_bounded e known h =
      let kept = without_old known in
      let last : Assertion → Course Assertion = λ after. gives (record after { diff = diff_over e known }) in
      let with_target : Assertion → Course Assertion = λ more. and_then (adds_all Tgt (phi_facts e.from e.target) more) last in
      let with_source : Assertion → Course Assertion = λ copied. and_then (adds_all Src (phi_facts e.from e.source) (without_phis e copied)) with_target in
      and_then_bounded (adds_all Src (filter_map as_old kept.src) kept) (λ half. and_then (adds_all Tgt (filter_map as_old kept.tgt) half) with_source)
      (all_bounded Src (filter_map as_old kept.src) kept (without_bounded is_old is_old known known.diff h))
      (λ half less. and_then_bounded (adds_all Tgt (filter_map as_old kept.tgt) half) with_source (all_bounded Tgt (filter_map as_old kept.tgt) half less)
      (λ copied less'. and_then_bounded (adds_all Src (phi_facts e.from e.source) (without_phis e copied)) with_target
      (all_bounded Src (phi_facts e.from e.source) (without_phis e copied) (phis_bounded e copied less'))
      (λ more less''. and_then_bounded (adds_all Tgt (phi_facts e.from e.target) more) last (all_bounded Tgt (phi_facts e.from e.target) more less'') (λ after fewer all. fewer))))

  chosen_bounded : (g : Reg) (e : Expr0) (known : Assertion) → size known ≤ n → IsBounded (chosen g e known)
  chosen_bounded g e known h =
      and_then_bounded (adds_all Src (choice g e) (as_new g known)) (adds_all Tgt (choice g e))
      (all_bounded Src (choice g e) (as_new g known) (without_bounded (same_reg g) (same_reg g) known (without_reg g known.diff) h))
      (λ known' less. all_bounded Tgt (choice g e) known' less)

  step_bounded : (w : Beside) (step : HintStep) (known : Assertion) → size known ≤ n → IsBounded (after_step w step known)
  step_bounded w (Rule step) known h = rule_bounded w (rule_named w.rules step.rule) step known h
  step_bounded w (GhostOf step) known h =
      and_then_bounded (tested (ghost_fault w.scope known step.register step.value) known) (chosen step.register step.value)
      (tested_bounded (ghost_fault w.scope known step.register step.value) known h) (λ known' less. chosen_bounded step.register step.value known' less)
  step_bounded w (SameAs step) known h =
      tested_bounded (same_fault w known step.register step.by) (record known { diff = without_reg step.register known.diff }) h

  steps_bounded : (w : Beside) (steps : List HintStep) (known : Assertion) → size known ≤ n → IsBounded (after_steps w steps known)
  steps_bounded w [] known h = λ all. h
  steps_bounded w (s ∷ ss) known h = and_then_bounded (after_step w s known) (after_steps w ss) (step_bounded w s known h) (steps_bounded w ss)

pub sizes_bound : SizesBoundWhatIsKnown
sizes_bound = record {
  at_a_start = λ n lists after all ends. subst (EndAtMost n) ends (put_in_bounded n lists all);
  over_steps = λ n w steps known h after all ends. subst (EndAtMost n) ends (steps_bounded n w steps known h all);
  over_a_line = λ n types l known h after all ends. subst (EndAtMost n) ends (line_bounded n types l known h all);
  over_an_edge = λ n e known h after all ends. subst (EndAtMost n) ends (edge_bounded n e known h all);
}
