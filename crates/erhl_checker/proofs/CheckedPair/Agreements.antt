-- Blocks whose lines agree where nothing is known are valid, whatever is known.
use Rattle.std.proofs.Common.{◌≡◌, ◌∙◌, ◌&&◌, ◌||◌, ⊎_elim, ℕ, suc, ◌+◌, ◌*◌, ◌≤◌, nat_lt, Bool, true, false, not, cond, filter, List, [], ◌∷◌, ◌++◌, length, Option, None, Some, refl, sym, ap, subst, arith}
use Rattle.std.specs.Prelude.{is_none}
use Rattle.std.specs.List.{AllByRecursion, list_any, filter_map}
use Rattle.std.specs.Option.{option_map}
use Rattle.std.proofs.lemmas.Bool.{cond_both, false≢true, or_cases, or_left, or_right}
use Rattle.std.proofs.lemmas.Bool.Decides.{nat_tests}
use Rattle.std.proofs.lemmas.List.{length-append}
use Rattle.ir_types.specs.NameLaws.{left_true, right_true, all_true, same_name_true, same_name_refl}
use Rattle.ir_core.specs.Limits.{fact_limit}
use Rattle.ir_types.specs.declared.names.Name.{Name}
use Rattle.ir_types.specs.declared.named.NamedTy.{NamedTy}
use Rattle.ir_core.specs.declared.values.Kind.{Kind}
use Rattle.ir_core.specs.declared.operands.Operand.{Operand}
use Rattle.ir_types.specs.declared.ty.Ty.{Ty}
use Rattle.ir_core.specs.declared.functions.Calm.{Calm}
use Rattle.ir_core.specs.declared.functions.Entry.{Entry}
use Rattle.ir_core.specs.declared.functions.Instr.{Instr}
use Rattle.ir_core.specs.declared.functions.Instr.TheVariants as line
use Rattle.ir_core.specs.declared.functions.Phi.{Phi}
use Rattle.ir_core.specs.declared.functions.Term.{Term}
use Rattle.ir_core.specs.declared.functions.Term.TheVariants.{Ret, RetVoid, Br, CondBr, Switch, Unreachable}
use Rattle.ir_core.specs.declared.expressions.Expr.{Expr}
use Rattle.ir_core.specs.declared.expressions.Expr.TheVariants as expr
use Rattle.ir_core.specs.declared.expressions.Reg.{Reg}
use Rattle.ir_core.specs.declared.expressions.Reg.TheVariants.{Now}
use Rattle.ir_core.specs.Expressions.{operands_in}
use Rattle.ir_core.specs.Functions.{successors_of}
use Rattle.ir_types.specs.Same.{same_list, same_ty, same_name}
use Rattle.ir_core.specs.Types.{kind_of}
use Rattle.ir_machine.specs.Machine.{entry_from}
use Rattle.erhl_assert.specs.declared.facts.Fact.{Fact}
use Rattle.erhl_assert.specs.declared.facts.Fact.TheVariants.{LessDef, Unique, Private, NoAlias, Ok}
use Rattle.erhl_assert.specs.declared.fact_set.Kill.{Kill}
use Rattle.erhl_assert.specs.declared.facts.Assertion.{Assertion}
use Rattle.erhl_assert.specs.declared.facts.Side.{Side}
use Rattle.erhl_assert.specs.declared.facts.Side.TheVariants.{Src, Tgt}
use Rattle.erhl_assert.specs.declared.hints.HintBlock.{HintBlock}
use Rattle.erhl_assert.specs.declared.hints.Letter.{Letter}
use Rattle.erhl_assert.specs.declared.verdict.Reason.{Reason}
use Rattle.erhl_assert.specs.declared.verdict.Reason.TheVariants.{TargetMayTrap, Unmatched, DiffLeft}
use Rattle.erhl_assert.specs.declared.verdict.Verdict.TheVariants as verdict
use Rattle.erhl_assert.specs.declared.verdict.Spot.TheVariants as spot
use Rattle.erhl_assert.specs.Facts.{both_ways, has_fact, expr_names, fact_has, on_side, without}
use Rattle.erhl_assert.specs.Kills.{all_killed, killed}
use Rattle.erhl_assert.specs.Alignment.{Line, AlignedBlock, no_facts, block_hint}
use Rattle.erhl_assert.specs.Allowed.{may_trap, keeps_alignment, same_operator, first_unmatched, right_fault, line_fault}
use Rattle.erhl_assert.specs.Matched.{now_operand, from_fact, into_fact, some_into, meet, matched_at, matched, are_matched}
use Rattle.erhl_assert.specs.Postcondition.{accessed_by, calm_adds, line_kills, right_side, left_side, flags_agree, rights_agree, lines_agree, without_reg, with_reg, diff_after, after_line}
use Rattle.erhl_assert.specs.Edges.{Edge, edge_between, phis_at, is_old, as_old, without_old, is_of_phi, past_phis, phi_kills, sets, phi_fact, phi_facts, phi_setting, entries_match, phis_match, is_alike, phi_registers, old_too, diff_over, after_edge}
use Rattle.erhl_assert.specs.Course.{Ends, Refuses, Gives, Course, gives, after_ends, and_then, first_fault, are_too_many, within, answer_at, judged_answer}
use Rattle.erhl_assert.specs.Growth.{size, adds, adds_all, over_side, over_allowed, over_line, without_phis, over_edge}
use Rattle.erhl_assert.specs.Steps.{Beside, after_steps, steps_at, steps_on}
use Rattle.erhl_assert.specs.Acceptance.{same_case, operand_fault, of_one_kind, term_fault, missing_fault, first_printed, left_over, arrival_fault, edge_judged, edges_judged, labels_once, hint_of_block, block_judged}
use Rattle.erhl_assert.proofs.Courses.{allowed_ends, line_allowed}
use Rattle.erhl_assert.proofs.Judging.{edge_within}
use Rattle.fact_sets.proofs.ErhlSides.Once.{kept_by, killed_is}
use Rattle.line_align.specs.Cursor.{on_source, on_target, left}
use Rattle.line_align.specs.Lent.{lines_under}
use Rattle.erhl_checker.specs.CheckedPair.Agreeing.{is_load, instrs_agree, line_agrees, all_agree, terms_agree, are_few, phi_agrees, phis_agree, no_fact, claims_nothing, edge_agrees, edges_agree, block_agrees}
use Rattle.erhl_checker.specs.CheckedPair.Empty.{AreParts, IsEmpty}
use Rattle.erhl_checker.specs.CheckedPair.Progress.{past_line, lines_answer, end_answer}
use Rattle.erhl_checker.proofs.CheckedPair.Progressing.{line_within, arrived, edge_crossed, edge_valid, edges_more, end_passed, lines_one, lines_none, begun}

-- as many lines as letters
pub lines_counted : (ls : List Letter) (xs ys : List Instr) → length (lines_under ls xs ys) ≡ length ls
lines_counted [] xs ys = refl
lines_counted (l ∷ ls) xs ys = ap suc (lines_counted ls (left (on_source l) xs) (left (on_target l) ys))

-- ---- what is matched where nothing is known is matched wherever no register may differ

or_false : (b : Bool) → (b || false) ≡ true → b ≡ true
or_false true h = refl
or_false false h = h

-- what isn't a load has no alignment
aligned : (types : List NamedTy) (s t : Expr Name) → is_load s ≡ false → keeps_alignment types s t ≡ true
aligned types (expr.Load a) t h = absurd (false≢true (sym h))
aligned types (expr.Plain a) t h = refl
aligned types (expr.Binary a) t h = refl
aligned types (expr.Icmp a) t h = refl
aligned types (expr.Cast a) t h = refl
aligned types (expr.Select a) t h = refl
aligned types (expr.Element a) t h = refl

module _ (known : Assertion) (same : known.diff ≡ []) where
  matched_at_more : (k : Option Kind) (a b : Operand Reg) → matched_at no_facts k a b ≡ true → matched_at known k a b ≡ true
  matched_at_more None a b h = h
  matched_at_more (Some k) a b h =
      let here : meet [] k a b ≡ true = or_false (meet [] k a b) (or_false (some_into (λ d. meet [] k a d) b []) h) in
      let there : meet known.diff k a b ≡ true = ap (λ diff. meet diff k a b) same ∙ here in
      or_left (some_into (λ d. meet known.diff k a d) b known.tgt) (list_any (from_fact (λ c. some_into (λ d. meet known.diff k c d) b known.tgt) a) known.src)
      (or_left (meet known.diff k a b) (list_any (into_fact (λ d. meet known.diff k a d) b) known.tgt) there)

  matched_more : (a b : Operand Name) → matched no_facts a b ≡ true → matched known a b ≡ true
  matched_more a b h =
      let k = kind_of a.ty in
      all_true (left_true (same_ty a.ty b.ty) (matched_at no_facts k (now_operand a) (now_operand b)) h)
      (matched_at_more k (now_operand a) (now_operand b) (right_true (same_ty a.ty b.ty) (matched_at no_facts k (now_operand a) (now_operand b)) h))

  are_matched_more : (xs ys : List (Operand Name)) → are_matched no_facts xs ys ≡ true → are_matched known xs ys ≡ true
  are_matched_more [] [] h = refl
  are_matched_more [] (b ∷ ys) h = h
  are_matched_more (a ∷ xs) [] h = h
  are_matched_more (a ∷ xs) (b ∷ ys) h =
      all_true (matched_more a b (left_true (matched no_facts a b) (are_matched no_facts xs ys) h))
      (are_matched_more xs ys (right_true (matched no_facts a b) (are_matched no_facts xs ys) h))

  rights_agree_more : (s t : Expr Name) → rights_agree no_facts s t ≡ true → rights_agree known s t ≡ true
  rights_agree_more s t h =
      let one = same_operator s t in
      let flags = flags_agree s t in
      let here = are_matched no_facts (operands_in s) (operands_in t) in
      all_true (left_true (one && flags) here h) (are_matched_more (operands_in s) (operands_in t) (right_true (one && flags) here h))

  lines_agree_more : (s t : Calm) → lines_agree no_facts s t ≡ true → lines_agree known s t ≡ true
  lines_agree_more s t h =
      let one = same_name s.name t.name in
      all_true (left_true one (rights_agree no_facts s.right t.right) h)
      (rights_agree_more s.right t.right (right_true one (rights_agree no_facts s.right t.right) h))

  -- ---- a line that agrees is allowed, and no register may differ after it
  first_unmatched_none : (xs ys : List (Operand Name)) → are_matched known xs ys ≡ true → first_unmatched known xs ys ≡ None
  first_unmatched_none [] ys h = refl
  first_unmatched_none (a ∷ xs) [] h = absurd (false≢true h)
  first_unmatched_none (a ∷ xs) (b ∷ ys) h =
      ap (λ m. cond m (first_unmatched known xs ys) (Some (Unmatched a b))) (left_true (matched known a b) (are_matched known xs ys) h)
      ∙ first_unmatched_none xs ys (right_true (matched known a b) (are_matched known xs ys) h)

  module _ (types : List NamedTy) where
    right_allowed : (s t : Expr Name) → is_load s ≡ false → rights_agree known s t ≡ true → right_fault types known s t ≡ None
    right_allowed s t calm h =
        let one = same_operator s t in
        let flags = flags_agree s t in
        let operands = are_matched known (operands_in s) (operands_in t) in
        ap (λ b. cond (may_trap types known t) (cond b (first_unmatched known (operands_in s) (operands_in t)) (Some TargetMayTrap)) None)
        (all_true (left_true one flags (left_true (one && flags) operands h)) (aligned types s t calm))
        ∙ ap (λ (o : Option Reason). cond (may_trap types known t) o None) (first_unmatched_none (operands_in s) (operands_in t) (right_true (one && flags) operands h))
        ∙ (elim (may_trap types known t) as (λ b. cond {A = Option Reason} b None None ≡ None) [ true ↦ refl | false ↦ refl ])

    line_allowed_so : (s t : Calm) → is_load s.right ≡ false → lines_agree no_facts s t ≡ true → right_fault types known s.right t.right ≡ None
    line_allowed_so s t calm h =
        right_allowed s.right t.right calm (right_true (same_name s.name t.name) (rights_agree known s.right t.right) (lines_agree_more s t h))

  none_differ : (s t : Calm) → lines_agree no_facts s t ≡ true → diff_after known (Some (line.Calm s)) (Some (line.Calm t)) ≡ []
  none_differ s t h =
      ap (λ b. cond b (without_reg (Now s.name) known.diff) (with_reg (Now t.name) (with_reg (Now s.name) known.diff))) (lines_agree_more s t h)
      ∙ ap (without_reg (Now s.name)) same

-- ---- how many facts a line adds
abbrev AtMost : ℕ → List ℕ → Type 0
AtMost n sizes = AllByRecursion (λ s. s ≤ n) sizes

abbrev EndAtMost : ℕ → Ends Assertion → Type 0
EndAtMost n (Refuses r) = Unit {0}
EndAtMost n (Gives known) = size known ≤ n

abbrev Reaches : ℕ → Course Assertion → Type 0
Reaches n c = AtMost n c.sizes × EndAtMost n c.ends

all_more : (n m : ℕ) (xs : List ℕ) → n ≤ m → AtMost n xs → AtMost m xs
all_more n m [] le all = tt
all_more n m (x ∷ xs) le all = (omega (arith, all.0), all_more n m xs le all.1)

end_more : (n m : ℕ) (e : Ends Assertion) → n ≤ m → EndAtMost n e → EndAtMost m e
end_more n m (Refuses r) le h = tt
end_more n m (Gives known) le h = omega (arith, h)

all_both : (n m : ℕ) (xs ys : List ℕ) → n ≤ m → AtMost n xs → AtMost m ys → AtMost m (xs ++ ys)
all_both n m [] ys le first second = second
all_both n m (x ∷ xs) ys le first second = (omega (arith, first.0), all_both n m xs ys le first.1 second)

after_ends_reaches : (n m : ℕ) (sizes : List ℕ) (e : Ends Assertion) (next : Assertion → Course Assertion) → n ≤ m → AtMost n sizes → EndAtMost n e
    → ((known : Assertion) → size known ≤ n → Reaches m (next known)) → Reaches m (after_ends sizes e next)
after_ends_reaches n m sizes (Refuses r) next le first end on = (all_more n m sizes le first, tt)
after_ends_reaches n m sizes (Gives known) next le first end on = let then = on known end in (all_both n m sizes (next known).sizes le first then.0, then.1)

and_then_reaches : (n m : ℕ) (c : Course Assertion) (next : Assertion → Course Assertion) → n ≤ m → Reaches n c
    → ((known : Assertion) → size known ≤ n → Reaches m (next known)) → Reaches m (and_then c next)
and_then_reaches n m c next le first on = after_ends_reaches n m c.sizes c.ends next le first.0 first.1 on

length_more : (fs : List Fact) (f : Fact) → length (fs ++ f ∷ []) ≡ length fs + 1
length_more [] f = refl
length_more (g ∷ fs) f = let rest = length_more fs f in omega arith

adds_reaches : (n : ℕ) (side : Side) (f : Fact) (known : Assertion) → size known ≤ n → Reaches (n + 1) (adds side f known)
adds_reaches n Src f known h =
    let more = length_more known.src f in
    let had : length known.src + length known.tgt ≤ n = h in
    elim (has_fact f known.src) as (λ (b : Bool).
    AtMost (n + 1) (cond b [] ((length (cond b known.src (known.src ++ f ∷ [])) + length known.tgt) ∷ []))
    × (length (cond b known.src (known.src ++ f ∷ [])) + length known.tgt ≤ n + 1)) [ true ↦ (tt, omega arith) | false ↦ ((omega arith, tt), omega arith) ]
adds_reaches n Tgt f known h =
    let more = length_more known.tgt f in
    let had : length known.src + length known.tgt ≤ n = h in
    elim (has_fact f known.tgt) as (λ (b : Bool).
    AtMost (n + 1) (cond b [] ((length known.src + length (cond b known.tgt (known.tgt ++ f ∷ []))) ∷ []))
    × (length known.src + length (cond b known.tgt (known.tgt ++ f ∷ [])) ≤ n + 1)) [ true ↦ (tt, omega arith) | false ↦ ((omega arith, tt), omega arith) ]

filter_shorter : (p : Fact → Bool) (fs : List Fact) → length (filter p fs) ≤ length fs
filter_shorter p [] = omega arith
filter_shorter p (f ∷ fs) =
    let rest : length (filter p fs) ≤ length fs = filter_shorter p fs in
    cond_both (p f) (f ∷ filter p fs) (filter p fs) (λ (gs : List Fact). length gs ≤ suc (length fs)) (λ e. omega arith) (λ e. omega arith)

all_killed_shorter : (ks : List Kill) (fs : List Fact) → length (all_killed ks fs) ≤ length fs
all_killed_shorter [] fs = omega arith
all_killed_shorter (k ∷ ks) fs =
    let one : length (killed k fs) ≡ length (filter (kept_by k fs) fs) = ap length (killed_is k fs) in
    let fewer : length (filter (kept_by k fs) fs) ≤ length fs = filter_shorter (kept_by k fs) fs in
    let rest : length (all_killed ks (killed k fs)) ≤ length (killed k fs) = all_killed_shorter ks (killed k fs) in
    omega arith

killing_shrinks : (n : ℕ) (side : Side) (ks : List Kill) (known : Assertion) → size known ≤ n → size (on_side side (all_killed ks) known) ≤ n
killing_shrinks n Src ks known h =
    let fewer : length (all_killed ks known.src) ≤ length known.src = all_killed_shorter ks known.src in
    let had : length known.src + length known.tgt ≤ n = h in
    omega arith
killing_shrinks n Tgt ks known h =
    let fewer : length (all_killed ks known.tgt) ≤ length known.tgt = all_killed_shorter ks known.tgt in
    let had : length known.src + length known.tgt ≤ n = h in
    omega arith

adds_all_reaches : (side : Side) (fs : List Fact) (n : ℕ) (known : Assertion) → size known ≤ n → Reaches (n + length fs) (adds_all side fs known)
adds_all_reaches side [] n known h = (tt, omega (arith, h))
adds_all_reaches side (f ∷ fs) n known h =
    and_then_reaches (n + 1) (n + suc (length fs)) (adds side f known) (adds_all side fs) (omega arith) (adds_reaches n side f known h)
    (λ half less. let e : n + 1 + length fs ≡ n + suc (length fs) = omega arith in subst (λ m. Reaches m (adds_all side fs half)) e (adds_all_reaches side fs (n + 1) half less))

-- beside what isn't a load, what agrees is no access
module _ (types : List NamedTy) (l : Calm) where
  source_no_access : (s : Expr Name) → is_load s ≡ false → accessed_by types l s ≡ []
  source_no_access (expr.Load a) h = absurd (false≢true (sym h))
  source_no_access (expr.Plain a) h = refl
  source_no_access (expr.Binary a) h = refl
  source_no_access (expr.Icmp a) h = refl
  source_no_access (expr.Cast a) h = refl
  source_no_access (expr.Select a) h = refl
  source_no_access (expr.Element a) h = refl

  target_no_access : (s t : Expr Name) → is_load s ≡ false → same_operator s t ≡ true → accessed_by types l t ≡ []
  target_no_access (expr.Load a) (expr.Load b) calm h = absurd (false≢true (sym calm))
  target_no_access (expr.Plain a) (expr.Load b) calm h = absurd (false≢true h)
  target_no_access (expr.Binary a) (expr.Load b) calm h = absurd (false≢true h)
  target_no_access (expr.Icmp a) (expr.Load b) calm h = absurd (false≢true h)
  target_no_access (expr.Cast a) (expr.Load b) calm h = absurd (false≢true h)
  target_no_access (expr.Select a) (expr.Load b) calm h = absurd (false≢true h)
  target_no_access (expr.Element a) (expr.Load b) calm h = absurd (false≢true h)
  target_no_access s (expr.Plain a) calm h = refl
  target_no_access s (expr.Binary a) calm h = refl
  target_no_access s (expr.Icmp a) calm h = refl
  target_no_access s (expr.Cast a) calm h = refl
  target_no_access s (expr.Select a) calm h = refl
  target_no_access s (expr.Element a) calm h = refl

  calm_few : accessed_by types l l.right ≡ [] → length (calm_adds types l) ≤ 2
  calm_few none =
      let pair : List Fact = both_ways (left_side l) (right_side types l) in
      let all : length (cond (expr_names (Now l.name) (right_side types l)) [] pair ++ accessed_by types l l.right) ≡ length (cond (expr_names (Now l.name) (right_side types l)) [] pair ++ []) =
      ap (λ fs. length (cond (expr_names (Now l.name) (right_side types l)) [] pair ++ fs)) none in
      let two : length (cond (expr_names (Now l.name) (right_side types l)) [] pair ++ []) ≤ 2 =
      cond_both (expr_names (Now l.name) (right_side types l)) [] pair (λ (fs : List Fact). length (fs ++ []) ≤ 2) (λ e. omega arith) (λ e. omega arith) in
      omega arith

  calm_reaches : (n : ℕ) (side : Side) (known : Assertion) → accessed_by types l l.right ≡ [] → size known ≤ n
      → Reaches (n + 1 + 1) (adds_all side (calm_adds types l) (on_side side (all_killed (line_kills (line.Calm l))) known))
  calm_reaches n side known none h =
      let kept : Assertion = on_side side (all_killed (line_kills (line.Calm l))) known in
      let few : length (calm_adds types l) ≤ 2 = calm_few none in
      let it : Reaches (n + length (calm_adds types l)) (adds_all side (calm_adds types l) kept) =
      adds_all_reaches side (calm_adds types l) n kept (killing_shrinks n side (line_kills (line.Calm l)) known h) in
      let le : n + length (calm_adds types l) ≤ n + 1 + 1 = omega arith in (
        all_more (n + length (calm_adds types l)) (n + 1 + 1) (adds_all side (calm_adds types l) kept).sizes le it.0,
        end_more (n + length (calm_adds types l)) (n + 1 + 1) (adds_all side (calm_adds types l) kept).ends le it.1,
      )

-- of a line of both sides
both_reach : (types : List NamedTy) (n : ℕ) (s t : Calm) (known : Assertion) → is_load s.right ≡ false → same_operator s.right t.right ≡ true → size known ≤ n
    → Reaches (n + 1 + 1 + 1 + 1) (over_allowed types (record { source = Some (line.Calm s); target = Some (line.Calm t) }) known)
both_reach types n s t known calm one h =
    let last : Assertion → Course Assertion = λ after. gives (record after { diff = diff_after known (Some (line.Calm s)) (Some (line.Calm t)) }) in
    and_then_reaches (n + 1 + 1) (n + 1 + 1 + 1 + 1) (over_side types false Src (Some (line.Calm s)) known) (λ half. and_then (over_side types false Tgt (Some (line.Calm t)) half) last) (omega arith)
    (calm_reaches types s n Src known (source_no_access types s s.right calm) h)
    (λ half less. and_then_reaches (n + 1 + 1 + 1 + 1) (n + 1 + 1 + 1 + 1) (over_side types false Tgt (Some (line.Calm t)) half) last (omega arith)
    (calm_reaches types t (n + 1 + 1) Tgt half (target_no_access types t s.right t.right calm one) less)
    (λ after less'. (tt, less')))

not_too_many : (n : ℕ) (sizes : List ℕ) → n ≤ fact_limit → AtMost n sizes → are_too_many sizes ≡ false
not_too_many n [] le all = refl
not_too_many n (s ∷ ss) le all =
    let here : nat_lt fact_limit s ≡ false = grind (arith, nat_tests, all.0, le) in
    ap (λ b. b || are_too_many ss) here ∙ not_too_many n ss le all.1

-- ---- a line that agrees, of what is known where no register may differ
module _ (types : List NamedTy) (s t : Calm) (known : Assertion) (n : ℕ) (same : known.diff ≡ []) (calm : is_load s.right ≡ false) (agree : lines_agree no_facts s t ≡ true)
    (before : size known ≤ n) (few : n + 1 + 1 + 1 + 1 ≤ fact_limit) where
  abbrev both : Line
  both = record { source = Some (line.Calm s); target = Some (line.Calm t) }

  one_operator : same_operator s.right t.right ≡ true
  one_operator =
      let one = same_operator s.right t.right in
      let flags = flags_agree s.right t.right in
      left_true one flags (left_true (one && flags) (are_matched no_facts (operands_in s.right) (operands_in t.right)) (right_true (same_name s.name t.name) (rights_agree no_facts s.right t.right) agree))

  allowed : line_fault types known both ≡ None
  allowed = line_allowed_so known same types s t calm agree

  line_goes_on : within (over_line types both known) ≡ Some (Gives (after_line types known both))
  line_goes_on =
      line_within types both known allowed
      (ap (λ (c : Course Assertion). are_too_many c.sizes) (line_allowed types both known allowed)
      ∙ not_too_many (n + 1 + 1 + 1 + 1) (over_allowed types both known).sizes few (both_reach types n s t known calm one_operator before).0)

  line_adds : size (after_line types known both) ≤ n + 1 + 1 + 1 + 1
  line_adds = subst (EndAtMost (n + 1 + 1 + 1 + 1)) (allowed_ends types both known) (both_reach types n s t known calm one_operator before).1

not_so : (b : Bool) → not b ≡ true → b ≡ false
not_so true h = absurd (false≢true h)
not_so false h = refl

-- over a line that agrees a check goes on, no register may differ after it, and it adds at most four facts
abbrev GoesOn : List NamedTy → Line → Assertion → ℕ → Type 0
GoesOn types l known n = (within (over_line types l known) ≡ Some (Gives (after_line types known l))) × ((after_line types known l).diff ≡ []) × (size (after_line types known l) ≤ n + 1 + 1 + 1 + 1)

line_steps : (types : List NamedTy) (x y : Option Instr) (known : Assertion) (n : ℕ) → known.diff ≡ [] → instrs_agree x y ≡ true → size known ≤ n → n + 1 + 1 + 1 + 1 ≤ fact_limit
    → GoesOn types (record { source = x; target = y }) known n
line_steps types (Some (line.Calm s)) (Some (line.Calm t)) known n same both before few =
    let agree = right_true (not (is_load s.right)) (lines_agree no_facts s t) both in
    let calm = not_so (is_load s.right) (left_true (not (is_load s.right)) (lines_agree no_facts s t) both) in
    (line_goes_on types s t known n same calm agree before few, none_differ known same s t agree, line_adds types s t known n same calm agree before few)
line_steps types x y known n same agree before few = absurd (false≢true agree)

-- ---- terminators

operand_passes : (known : Assertion) → known.diff ≡ [] → (a b : Operand Name) → is_none (operand_fault no_facts a b) ≡ true → operand_fault known a b ≡ None
operand_passes known same a b h =
    (elim (matched no_facts a b) as (λ m. matched no_facts a b ≡ m → is_none (cond m None (Some (Unmatched a b))) ≡ true → cond (matched known a b) None (Some (Unmatched a b)) ≡ None) [
      | true ↦ λ e none. ap (λ m. cond m None (Some (Unmatched a b))) (matched_more known same a b e)
      | false ↦ λ e none. absurd (false≢true none)
    ]) refl h

of_one_passes : (b : Bool) (here there : Option Reason) → (is_none here ≡ true → there ≡ None) → is_none (of_one_kind b here) ≡ true → of_one_kind b there ≡ None
of_one_passes true here there on h = on h
of_one_passes false here there on h = absurd (false≢true h)

term_passes : (s t : Term) (known : Assertion) → known.diff ≡ [] → is_none (term_fault no_facts s t) ≡ true → term_fault known s t ≡ None
term_passes (Ret a) (Ret b) known same h = operand_passes known same a b h
term_passes (Ret a) RetVoid known same h = absurd (false≢true h)
term_passes (Ret a) (Br b) known same h = absurd (false≢true h)
term_passes (Ret a) (CondBr b) known same h = absurd (false≢true h)
term_passes (Ret a) (Switch b) known same h = absurd (false≢true h)
term_passes (Ret a) Unreachable known same h = absurd (false≢true h)
term_passes RetVoid (Ret b) known same h = absurd (false≢true h)
term_passes RetVoid RetVoid known same h = refl
term_passes RetVoid (Br b) known same h = absurd (false≢true h)
term_passes RetVoid (CondBr b) known same h = absurd (false≢true h)
term_passes RetVoid (Switch b) known same h = absurd (false≢true h)
term_passes RetVoid Unreachable known same h = absurd (false≢true h)
term_passes (Br a) (Ret b) known same h = absurd (false≢true h)
term_passes (Br a) RetVoid known same h = absurd (false≢true h)
term_passes (Br a) (Br b) known same h = of_one_passes (same_name a b) None None (λ e. refl) h
term_passes (Br a) (CondBr b) known same h = absurd (false≢true h)
term_passes (Br a) (Switch b) known same h = absurd (false≢true h)
term_passes (Br a) Unreachable known same h = absurd (false≢true h)
term_passes (CondBr a) (Ret b) known same h = absurd (false≢true h)
term_passes (CondBr a) RetVoid known same h = absurd (false≢true h)
term_passes (CondBr a) (Br b) known same h = absurd (false≢true h)
term_passes (CondBr a) (CondBr b) known same h =
    of_one_passes (same_name a.on_true b.on_true && same_name a.on_false b.on_false) (operand_fault no_facts a.condition b.condition) (operand_fault known a.condition b.condition)
    (operand_passes known same a.condition b.condition) h
term_passes (CondBr a) (Switch b) known same h = absurd (false≢true h)
term_passes (CondBr a) Unreachable known same h = absurd (false≢true h)
term_passes (Switch a) (Ret b) known same h = absurd (false≢true h)
term_passes (Switch a) RetVoid known same h = absurd (false≢true h)
term_passes (Switch a) (Br b) known same h = absurd (false≢true h)
term_passes (Switch a) (CondBr b) known same h = absurd (false≢true h)
term_passes (Switch a) (Switch b) known same h =
    of_one_passes (same_name a.default b.default && same_list same_case a.cases b.cases) (operand_fault no_facts a.value b.value) (operand_fault known a.value b.value)
    (operand_passes known same a.value b.value) h
term_passes (Switch a) Unreachable known same h = absurd (false≢true h)
term_passes Unreachable (Ret b) known same h = absurd (false≢true h)
term_passes Unreachable RetVoid known same h = absurd (false≢true h)
term_passes Unreachable (Br b) known same h = absurd (false≢true h)
term_passes Unreachable (CondBr b) known same h = absurd (false≢true h)
term_passes Unreachable (Switch b) known same h = absurd (false≢true h)
term_passes Unreachable Unreachable known same h = refl

few_so : (n : ℕ) → not (nat_lt fact_limit n) ≡ true → n ≤ fact_limit
few_so n h = grind (arith, nat_tests)

-- ---- registers of phis that agree

abbrev AreAll : (Reg → Bool) → List Reg → Type 0
AreAll test rs = AllByRecursion (λ r. test r ≡ true) rs

all_of_two : (test : Reg → Bool) (rs ss : List Reg) → AreAll test rs → AreAll test ss → AreAll test (rs ++ ss)
all_of_two test [] ss first second = second
all_of_two test (r ∷ rs) ss first second = (first.0, all_of_two test rs ss first.1 second)

none_left : (test : Reg → Bool) (rs : List Reg) → AreAll test rs → filter (λ r. not (test r)) rs ≡ []
none_left test [] all = refl
none_left test (r ∷ rs) all =
    ap (λ b. cond (not b) (r ∷ filter (λ r. not (test r)) rs) (filter (λ r. not (test r)) rs)) all.0 ∙ none_left test rs all.1

all_set : (test : Reg → Bool) (ps : List Phi) → ((x : Name) → list_any (sets x) ps ≡ true → test (Now x) ≡ true) → AreAll test (phi_registers ps)
all_set test [] each = tt
all_set test (p ∷ ps) each = (
  each p.name (or_left (same_name p.name p.name) (list_any (sets p.name) ps) (same_name_refl p.name)),
  all_set test ps (λ x there. each x (or_right (same_name p.name x) (list_any (sets x) ps) there)),
)

module _ (from : Name) where
  one_name : (p q : Phi) → phi_agrees from p q ≡ true → p.name ≡ q.name
  one_name p q h = same_name_true p.name q.name (left_true (same_name p.name q.name) (phis_match no_facts from (Some p) (Some q)) h)

  settings_match : (x : Name) (ps qs : List Phi) → phis_agree from ps qs ≡ true → list_any (sets x) ps ≡ true
      → phis_match no_facts from (phi_setting x ps) (phi_setting x qs) ≡ true
  settings_match x [] qs agree there = absurd (false≢true there)
  settings_match x (p ∷ ps) [] agree there = absurd (false≢true agree)
  settings_match x (p ∷ ps) (q ∷ qs) agree there =
      let here = left_true (phi_agrees from p q) (phis_agree from ps qs) agree in
      let rest = right_true (phi_agrees from p q) (phis_agree from ps qs) agree in
      let name = one_name p q here in
      (elim (same_name p.name x) as (λ b. same_name p.name x ≡ b → (b || list_any (sets x) ps) ≡ true
      → phis_match no_facts from (cond b (Some p) (phi_setting x ps)) (cond (same_name q.name x) (Some q) (phi_setting x qs)) ≡ true) [
        | true ↦ λ e has.
            ap (λ c. phis_match no_facts from (Some p) (cond c (Some q) (phi_setting x qs))) (subst (λ z. same_name z x ≡ true) name e)
            ∙ right_true (same_name p.name q.name) (phis_match no_facts from (Some p) (Some q)) here
        | false ↦ λ e has.
            ap (λ c. phis_match no_facts from (phi_setting x ps) (cond c (Some q) (phi_setting x qs))) (subst (λ z. same_name z x ≡ false) name e)
            ∙ settings_match x ps qs rest has
      ]) refl there

  set_there : (x : Name) (ps qs : List Phi) → phis_agree from ps qs ≡ true → list_any (sets x) qs ≡ true → list_any (sets x) ps ≡ true
  set_there x [] [] agree there = there
  set_there x [] (q ∷ qs) agree there = absurd (false≢true agree)
  set_there x (p ∷ ps) [] agree there = absurd (false≢true there)
  set_there x (p ∷ ps) (q ∷ qs) agree there =
      let name = one_name p q (left_true (phi_agrees from p q) (phis_agree from ps qs) agree) in
      let rest = right_true (phi_agrees from p q) (phis_agree from ps qs) agree in
      ⊎_elim
      (λ here. or_left (same_name p.name x) (list_any (sets x) ps) (subst (λ z. same_name z x ≡ true) (sym name) here))
      (λ more. or_right (same_name p.name x) (list_any (sets x) ps) (set_there x ps qs rest more))
      (or_cases (same_name q.name x) (list_any (sets x) qs) there)

  module _ (known : Assertion) (same : known.diff ≡ []) where
    entries_more : (t : Ty) (o p : Option Entry) → entries_match no_facts t o p ≡ true → entries_match known t o p ≡ true
    entries_more t (Some d) (Some e) h = matched_more known same (record { ty = t; atom = d.value }) (record { ty = t; atom = e.value }) h
    entries_more t None p h = h
    entries_more t (Some d) None h = h

    phis_more : (o p : Option Phi) → phis_match no_facts from o p ≡ true → phis_match known from o p ≡ true
    phis_more (Some p) (Some q) h =
        let entries = entries_match no_facts p.ty (entry_from from p.entries) (entry_from from q.entries) in
        all_true (left_true (same_ty p.ty q.ty) entries h)
        (entries_more p.ty (entry_from from p.entries) (entry_from from q.entries) (right_true (same_ty p.ty q.ty) entries h))
    phis_more None p h = h
    phis_more (Some p) None h = h

    none_differ_over : (ps qs : List Phi) → phis_agree from ps qs ≡ true → diff_over (record { from = from; source = ps; target = qs }) known ≡ []
    none_differ_over ps qs agree =
        let e : Edge = record { from = from; source = ps; target = qs } in
        let alike : (x : Name) → list_any (sets x) ps ≡ true → is_alike known e (Now x) ≡ true =
        λ x there. phis_more (phi_setting x ps) (phi_setting x qs) (settings_match x ps qs agree there) in
        ap (λ diff. filter (λ r. not (is_alike known e r)) (old_too diff ++ (phi_registers ps ++ phi_registers qs))) same
        ∙ none_left (is_alike known e) (phi_registers ps ++ phi_registers qs)
        (all_of_two (is_alike known e) (phi_registers ps) (phi_registers qs) (all_set (is_alike known e) ps alike)
        (all_set (is_alike known e) qs (λ x there. alike x (set_there x ps qs agree there))))

-- ---- how many facts an edge adds

copies_few : (fs : List Fact) → length (filter_map as_old fs) ≤ length fs
copies_few [] = omega arith
copies_few (LessDef a b ∷ fs) = let rest = copies_few fs in omega arith
copies_few (NoAlias a b ∷ fs) = let rest = copies_few fs in omega arith
copies_few (Ok e t align ∷ fs) = let rest = copies_few fs in omega arith
copies_few (Unique r ∷ fs) = let rest = copies_few fs in omega arith
copies_few (Private r ∷ fs) = let rest = copies_few fs in omega arith

past_shorter : (from : Name) (ps : List Phi) (fs : List Fact) → length (past_phis from ps fs) ≤ length fs
past_shorter from ps fs =
    let first : length (without (is_of_phi ps) fs) ≤ length fs = filter_shorter (λ f. not (fact_has (is_of_phi ps) f)) fs in
    let then : length (past_phis from ps fs) ≤ length (without (is_of_phi ps) fs) = all_killed_shorter (phi_kills from ps) (without (is_of_phi ps) fs) in
    omega arith

phi_fact_few : (p : Phi) (o : Option Entry) → length (phi_fact p o) ≤ 2
phi_fact_few p None = omega arith
phi_fact_few p (Some e) = omega arith

phi_facts_few : (from : Name) (ps : List Phi) → length (phi_facts from ps) ≤ 2 * length ps
phi_facts_few from [] = omega arith
phi_facts_few from (p ∷ ps) =
    let whole = length-append (phi_fact p (entry_from from p.entries)) (phi_facts from ps) in
    let here = phi_fact_few p (entry_from from p.entries) in
    let rest = phi_facts_few from ps in
    omega arith

module _ (e : Edge) (known : Assertion) (n p : ℕ) (before : size known ≤ n) (source : length e.source ≤ p) (target : length e.target ≤ p) where
  abbrev kept : Assertion
  kept = without_old known

  abbrev with_copies_of : Side → ℕ
  with_copies_of Src = length kept.src + length kept.tgt + length (filter_map as_old kept.src)
  with_copies_of Tgt = length kept.src + length kept.tgt + length (filter_map as_old kept.src) + length (filter_map as_old kept.tgt)

  abbrev with_phis_of : Side → ℕ
  with_phis_of Src = with_copies_of Tgt + length (phi_facts e.from e.source)
  with_phis_of Tgt = with_copies_of Tgt + length (phi_facts e.from e.source) + length (phi_facts e.from e.target)

  all_in_all : with_phis_of Tgt ≤ n + n + 4 * p
  all_in_all =
      let fewer : length kept.src ≤ length known.src = filter_shorter (λ f. not (fact_has is_old f)) known.src in
      let fewer_of_target : length kept.tgt ≤ length known.tgt = filter_shorter (λ f. not (fact_has is_old f)) known.tgt in
      let had : length known.src + length known.tgt ≤ n = before in
      let copies = copies_few kept.src in
      let copies_of_target = copies_few kept.tgt in
      let phis = phi_facts_few e.from e.source in
      let phis_of_target = phi_facts_few e.from e.target in
      omega arith

  phis_shrink : (m : ℕ) (k : Assertion) → size k ≤ m → size (without_phis e k) ≤ m
  phis_shrink m k h =
      let fewer : length (past_phis e.from e.source k.src) ≤ length k.src = past_shorter e.from e.source k.src in
      let fewer_of_target : length (past_phis e.from e.target k.tgt) ≤ length k.tgt = past_shorter e.from e.target k.tgt in
      let had : length k.src + length k.tgt ≤ m = h in
      omega arith

  abbrev last : Assertion → Course Assertion
  last after = gives (record after { diff = diff_over e known })

  abbrev with_target : Assertion → Course Assertion
  with_target k = and_then (adds_all Tgt (phi_facts e.from e.target) k) last

  abbrev with_source : Assertion → Course Assertion
  with_source k = and_then (adds_all Src (phi_facts e.from e.source) (without_phis e k)) with_target

  abbrev with_copies : Assertion → Course Assertion
  with_copies k = and_then (adds_all Tgt (filter_map as_old kept.tgt) k) with_source

  last_reaches : (more : Assertion) → size more ≤ with_phis_of Src → Reaches (with_phis_of Tgt) (with_target more)
  last_reaches more less =
      and_then_reaches (with_phis_of Tgt) (with_phis_of Tgt) (adds_all Tgt (phi_facts e.from e.target) more) last (omega arith)
      (adds_all_reaches Tgt (phi_facts e.from e.target) (with_phis_of Src) more less) (λ after few. (tt, few))

  source_reaches : (copied : Assertion) → size copied ≤ with_copies_of Tgt → Reaches (with_phis_of Tgt) (with_source copied)
  source_reaches copied less =
      and_then_reaches (with_phis_of Src) (with_phis_of Tgt) (adds_all Src (phi_facts e.from e.source) (without_phis e copied)) with_target (omega arith)
      (adds_all_reaches Src (phi_facts e.from e.source) (with_copies_of Tgt) (without_phis e copied) (phis_shrink (with_copies_of Tgt) copied less)) last_reaches

  copies_reach : (half : Assertion) → size half ≤ with_copies_of Src → Reaches (with_phis_of Tgt) (with_copies half)
  copies_reach half less =
      and_then_reaches (with_copies_of Tgt) (with_phis_of Tgt) (adds_all Tgt (filter_map as_old kept.tgt) half) with_source (omega arith)
      (adds_all_reaches Tgt (filter_map as_old kept.tgt) (with_copies_of Src) half less) source_reaches

  edge_reaches : Reaches (with_phis_of Tgt) (over_edge e known)
  edge_reaches =
      and_then_reaches (with_copies_of Src) (with_phis_of Tgt) (adds_all Src (filter_map as_old kept.src) kept) with_copies (omega arith)
      (adds_all_reaches Src (filter_map as_old kept.src) (length kept.src + length kept.tgt) kept (omega arith)) copies_reach

  edge_goes_on : n + n + 4 * p ≤ fact_limit → within (over_edge e known) ≡ Some (Gives (after_edge known e))
  edge_goes_on few =
      edge_within e known (after_edge known e) refl (not_too_many (with_phis_of Tgt) (over_edge e known).sizes (let all = all_in_all in omega arith) edge_reaches.0)

-- ---- over the edges of a block

claims_none : (fs : List Fact) → no_fact fs ≡ true → fs ≡ []
claims_none [] h = refl
claims_none (f ∷ fs) h = absurd (false≢true h)

arrives : (wanted k : Assertion) → wanted.src ≡ [] → wanted.tgt ≡ [] → k.diff ≡ [] → arrival_fault wanted k ≡ None
arrives wanted k src tgt diff =
    ap (λ fs. first_fault (missing_fault k.src fs ∷ missing_fault k.tgt wanted.tgt ∷ option_map DiffLeft (first_printed (left_over wanted.diff k.diff)) ∷ [])) src
    ∙ ap (λ fs. first_fault (None ∷ missing_fault k.tgt fs ∷ option_map DiffLeft (first_printed (left_over wanted.diff k.diff)) ∷ [])) tgt
    ∙ ap (λ rs. first_fault (None ∷ None ∷ option_map DiffLeft (first_printed (left_over wanted.diff rs)) ∷ [])) diff

same_length : (from : Name) (ps qs : List Phi) → phis_agree from ps qs ≡ true → length qs ≤ length ps
same_length from [] [] h = omega arith
same_length from [] (q ∷ qs) h = absurd (false≢true h)
same_length from (p ∷ ps) [] h = absurd (false≢true h)
same_length from (p ∷ ps) (q ∷ qs) h = let rest = same_length from ps qs (right_true (phi_agrees from p q) (phis_agree from ps qs) h) in omega arith

module _ (w : Beside) (from : Name) (lines : ℕ) (none : (block_hint w.hint from).edges ≡ []) (known : Assertion) (same : known.diff ≡ []) (few : size known ≤ 4 * lines) where
  agreeing_edge : (to : Name) → edge_agrees w from lines to ≡ true → judged_answer (edge_judged w from known to) ≡ Some verdict.Valid
  agreeing_edge to h =
      let ps = phis_at to w.source in
      let qs = phis_at to w.target in
      let e = edge_between w.source w.target from to in
      let entry = (block_hint w.hint to).entry in
      let count = not (nat_lt fact_limit (8 * lines + 4 * length ps)) in
      let first = left_true (count && claims_nothing entry) (phis_agree from ps qs) h in
      let agree = right_true (count && claims_nothing entry) (phis_agree from ps qs) h in
      let within_limit = few_so (8 * lines + 4 * length ps) (left_true count (claims_nothing entry) first) in
      let claims = right_true count (claims_nothing entry) first in
      let goes = edge_goes_on e known (4 * lines) (length ps) few (omega arith) (same_length from ps qs agree) (omega (arith, within_limit)) in
      let crossed = after_edge known e in
      edge_valid w from to known
      (sym (edge_crossed w from to known [] crossed (ap (steps_on to) (sym none)) goes)
      ∙ arrived w [] to crossed crossed None refl
      (sym (arrives entry (without_old crossed) (claims_none entry.src (left_true (no_fact entry.src) (no_fact entry.tgt) claims))
      (claims_none entry.tgt (right_true (no_fact entry.src) (no_fact entry.tgt) claims)) (none_differ_over from known same ps qs agree))))

  agreeing_edges : (labels : List Name) → edges_agree w from lines labels ≡ true → judged_answer (edges_judged w from known labels) ≡ Some verdict.Valid
  agreeing_edges [] h = refl
  agreeing_edges (to ∷ more) h =
      edges_more w from to more known (agreeing_edge to (left_true (edge_agrees w from lines to) (edges_agree w from lines more) h))
      ∙ agreeing_edges more (right_true (edge_agrees w from lines to) (edges_agree w from lines more) h)

-- ---- along a block
module _ (w : Beside) (b : AlignedBlock) (labels : List Name)
    (are : labels ≡ labels_once (successors_of b.source.term))
    (no_steps : (hint_of_block w b).steps ≡ []) (no_edges : (hint_of_block w b).edges ≡ [])
    (few : 4 * length b.lines ≤ fact_limit)
    (terms : terms_agree b.source.term b.target.term ≡ true)
    (edges : edges_agree w b.source.name (length b.lines) labels ≡ true) where
  agreeing_lines : (ls : List Line) (k n : ℕ) (known : Assertion) → known.diff ≡ [] → size known ≤ n → n + 4 * length ls ≤ 4 * length b.lines → all_agree ls ≡ true
      → lines_answer w b k ls known ≡ Some verdict.Valid
  agreeing_lines [] k n known same before left agree =
      lines_none w b k known
      ∙ ap (λ ss. answer_at b.source.name (spot.Line k) (within (after_steps w (steps_at k ss) known)) (end_answer w b k)) no_steps
      ∙ sym (end_passed w b k known labels are (term_passes b.source.term b.target.term known same terms))
      ∙ agreeing_edges w b.source.name (length b.lines) no_edges known same (omega arith) labels edges
  agreeing_lines (l ∷ ls) k n known same before left agree =
      let step = line_steps w.scope.types l.source l.target known n same (left_true (line_agrees l) (all_agree ls) agree) before (omega arith) in
      lines_one w b k l ls known
      ∙ ap (λ ss. answer_at b.source.name (spot.Line k) (past_line w (steps_at k ss) l known) (lines_answer w b (k + 1) ls)) no_steps
      ∙ ap (λ e. answer_at b.source.name (spot.Line k) e (lines_answer w b (k + 1) ls)) step.0
      ∙ agreeing_lines ls (k + 1) (n + 1 + 1 + 1 + 1) (after_line w.scope.types known l) step.1 step.2 (omega arith) (right_true (line_agrees l) (all_agree ls) agree)

-- what says the same as a hint that says nothing says nothing
pub empty_too : (h k : HintBlock) → AreParts h k → IsEmpty h → IsEmpty k
empty_too h k parts empty = record { entry = sym parts.entry ∙ empty.entry; steps = sym parts.steps ∙ empty.steps; edges = sym parts.edges ∙ empty.edges }

-- Blocks that agree are valid, where the hint says nothing of them.
pub agreeing_blocks : (w : Beside) (b : AlignedBlock) (labels : List Name) → labels ≡ labels_once (successors_of b.source.term) → IsEmpty (hint_of_block w b)
    → block_agrees w b labels ≡ true → judged_answer (block_judged w b) ≡ Some verdict.Valid
agreeing_blocks w b labels are empty h =
    let count = are_few b.lines in
    let lines = all_agree b.lines in
    let terms = terms_agree b.source.term b.target.term in
    let edges = edges_agree w b.source.name (length b.lines) labels in
    let three = left_true (count && lines && terms) edges h in
    let two = left_true (count && lines) terms three in
    let few = few_so (4 * length b.lines) (left_true count lines two) in
    sym (begun w b no_facts no_facts (sym empty.entry) refl)
    ∙ agreeing_lines w b labels are empty.steps empty.edges few (right_true (count && lines) terms three) (right_true (count && lines && terms) edges h) b.lines 0 0 no_facts refl (omega arith) (omega arith)
    (right_true count lines two)
