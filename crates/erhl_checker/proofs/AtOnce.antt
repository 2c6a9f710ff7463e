-- Functions whose blocks are alike are valid, where their hint says nothing.
use Rattle.std.proofs.Common.{◌≡◌, ◌∙◌, ◌&&◌, ℕ, suc, ◌+◌, ◌*◌, ◌≤◌, nat_lt, Bool, true, false, not, cond, List, [], ◌∷◌, length, Option, None, Some, refl, ap, arith}
use Rattle.std.specs.Prelude.{nat_eq, replicate}
use Rattle.std.specs.List.{zip}
use Rattle.std.specs.Option.{option_map}
use Rattle.std.proofs.lemmas.Bool.{cond_both, cond-true, false≢true}
use Rattle.std.proofs.lemmas.Bool.Decides.{nat_tests}
use Rattle.ir_types.specs.declared.names.Name.{Name}
use Rattle.ir_types.specs.NameLaws.{left_true, right_true, all_true}
use Rattle.ir_types.specs.Same.{same_list, same_name}
use Rattle.ir_core.specs.Limits.{fact_limit}
use Rattle.ir_core.specs.declared.functions.Block.{Block}
use Rattle.ir_core.specs.declared.functions.Function.{Function}
use Rattle.ir_core.specs.declared.functions.Instr.{Instr}
use Rattle.ir_core.specs.declared.functions.Phi.{Phi}
use Rattle.ir_core.specs.Functions.{successors_of}
use Rattle.ir_values.specs.Constants.{Scope}
use Rattle.ir_machine.specs.Machine.{block_named}
use Rattle.flow_solver.specs.Near.{reached_nodes}
use Rattle.definedness.specs.Graph.{flow_of}
use Rattle.erhl_assert.specs.declared.hints.Hint.{Hint}
use Rattle.erhl_assert.specs.declared.hints.HintBlock.{HintBlock}
use Rattle.erhl_assert.specs.declared.hints.Letter.TheVariants.{Both}
use Rattle.erhl_assert.specs.declared.verdict.Spot.TheVariants as spot
use Rattle.erhl_assert.specs.declared.verdict.Verdict.TheVariants as verdict
use Rattle.erhl_assert.specs.Alignment.{Line, AlignedBlock, Aligned, Differs, no_facts, after_first, aligned, block_aligned, with_block, blocks_aligned, same_header, first_block}
use Rattle.erhl_assert.specs.Course.{Good, judged_answer}
use Rattle.erhl_assert.specs.Edges.{phis_of, phis_at}
use Rattle.erhl_assert.specs.Steps.{Rules, Beside, beside}
use Rattle.erhl_assert.specs.Acceptance.{entry_fault, labels_once, block_judged, blocks_judged, reached_judged, aligned_judged, function_answer}
use Rattle.erhl_assert.proofs.Judging.{test_passes}
use Rattle.erhl_checker.specs.CheckedPair.Agreeing.{instrs_agree, all_agree, terms_agree, phis_agree, edge_agrees, edges_agree}
use Rattle.erhl_checker.proofs.CheckedPair.Agreements.{agreeing_blocks}
use Rattle.erhl_checker.specs.Alike.{lines_alike, no_phi, are_few, blocks_alike, functions_alike}
use Rattle.erhl_checker.proofs.Reaching.{blocks_more}

-- ---- lines in pairs

abbrev both_lines : List Instr → List Instr → List Line
both_lines [] ys = []
both_lines (x ∷ xs) [] = []
both_lines (x ∷ xs) (y ∷ ys) = record { source = Some x; target = Some y } ∷ both_lines xs ys

lines_aligned : (xs ys : List Instr) → lines_alike xs ys ≡ true → aligned (replicate (length xs) Both) xs ys ≡ Some (both_lines xs ys)
lines_aligned [] [] h = refl
lines_aligned [] (y ∷ ys) h = absurd (false≢true h)
lines_aligned (x ∷ xs) [] h = absurd (false≢true h)
lines_aligned (x ∷ xs) (y ∷ ys) h =
    ap (after_first (record { source = Some x; target = Some y })) (lines_aligned xs ys (right_true (instrs_agree (Some x) (Some y)) (lines_alike xs ys) h))

lines_agreeing : (xs ys : List Instr) → lines_alike xs ys ≡ true → all_agree (both_lines xs ys) ≡ true
lines_agreeing [] ys h = refl
lines_agreeing (x ∷ xs) [] h = refl
lines_agreeing (x ∷ xs) (y ∷ ys) h =
    all_true (left_true (instrs_agree (Some x) (Some y)) (lines_alike xs ys) h)
    (lines_agreeing xs ys (right_true (instrs_agree (Some x) (Some y)) (lines_alike xs ys) h))

as_many_lines : (xs ys : List Instr) → lines_alike xs ys ≡ true → length (both_lines xs ys) ≡ length xs
as_many_lines [] ys h = refl
as_many_lines (x ∷ xs) [] h = absurd (false≢true h)
as_many_lines (x ∷ xs) (y ∷ ys) h = ap suc (as_many_lines xs ys (right_true (instrs_agree (Some x) (Some y)) (lines_alike xs ys) h))

-- ---- what two blocks that are alike are known to be

module _ (b c : Block) (h : blocks_alike b c ≡ true) where
  abbrev one : Bool
  one = same_name b.name c.name

  abbrev few : Bool
  few = are_few b.body

  abbrev lines : Bool
  lines = lines_alike b.body c.body

  before_terms : (one && no_phi b.phis && no_phi c.phis && few && lines) ≡ true
  before_terms = left_true (one && no_phi b.phis && no_phi c.phis && few && lines) (terms_agree b.term c.term) h

  before_lines : (one && no_phi b.phis && no_phi c.phis && few) ≡ true
  before_lines = left_true (one && no_phi b.phis && no_phi c.phis && few) lines before_terms

  before_few : (one && no_phi b.phis && no_phi c.phis) ≡ true
  before_few = left_true (one && no_phi b.phis && no_phi c.phis) few before_lines

  names : one ≡ true
  names = left_true one (no_phi b.phis) (left_true (one && no_phi b.phis) (no_phi c.phis) before_few)

  no_phi_of_source : no_phi b.phis ≡ true
  no_phi_of_source = right_true one (no_phi b.phis) (left_true (one && no_phi b.phis) (no_phi c.phis) before_few)

  no_phi_of_target : no_phi c.phis ≡ true
  no_phi_of_target = right_true (one && no_phi b.phis) (no_phi c.phis) before_few

  few_lines : few ≡ true
  few_lines = right_true (one && no_phi b.phis && no_phi c.phis) few before_lines

  same_lines : lines ≡ true
  same_lines = right_true (one && no_phi b.phis && no_phi c.phis && few) lines before_terms

  same_terms : terms_agree b.term c.term ≡ true
  same_terms = right_true (one && no_phi b.phis && no_phi c.phis && few && lines) (terms_agree b.term c.term) h

none_there : (ps : List Phi) → no_phi ps ≡ true → ps ≡ []
none_there [] h = refl
none_there (p ∷ ps) h = absurd (false≢true h)

few_so : (n : ℕ) → not (nat_lt fact_limit n) ≡ true → n ≤ fact_limit
few_so n h = grind (arith, nat_tests)

so_few : (n : ℕ) → n ≤ fact_limit → not (nat_lt fact_limit n) ≡ true
so_few n h = grind (arith, nat_tests)

so_many : (m n : ℕ) → m ≡ n → nat_eq m n ≡ true
so_many m n h = grind (arith, nat_tests)

-- ---- blocks in pairs

abbrev nothing_said : Hint
nothing_said = record { blocks = [] }

abbrev both_block : Block → Block → AlignedBlock
both_block b c = record { lines = both_lines b.body c.body; source = b; target = c }

abbrev both_blocks : List Block → List Block → List AlignedBlock
both_blocks [] cs = []
both_blocks (b ∷ bs) [] = []
both_blocks (b ∷ bs) (c ∷ cs) = both_block b c ∷ both_blocks bs cs

block_aligned_so : (b c : Block) → blocks_alike b c ≡ true → block_aligned nothing_said b c ≡ Some (both_block b c)
block_aligned_so b c h =
    ap (option_map (λ (ls : List Line). record { lines = ls; source = b; target = c }))
    (cond-true (same_name b.name c.name) (aligned (replicate (length b.body) Both) b.body c.body) None (names b c h) ∙ lines_aligned b.body c.body (same_lines b c h))

blocks_aligned_so : (bs cs : List Block) → same_list blocks_alike bs cs ≡ true → blocks_aligned nothing_said (zip bs cs) ≡ Aligned (both_blocks bs cs)
blocks_aligned_so [] [] h = refl
blocks_aligned_so [] (c ∷ cs) h = absurd (false≢true h)
blocks_aligned_so (b ∷ bs) [] h = absurd (false≢true h)
blocks_aligned_so (b ∷ bs) (c ∷ cs) h =
    ap (λ o. with_block b.name o (blocks_aligned nothing_said (zip bs cs))) (block_aligned_so b c (left_true (blocks_alike b c) (same_list blocks_alike bs cs) h))
    ∙ ap (with_block b.name (Some (both_block b c))) (blocks_aligned_so bs cs (right_true (blocks_alike b c) (same_list blocks_alike bs cs) h))

as_many_blocks : (bs cs : List Block) → same_list blocks_alike bs cs ≡ true → length bs ≡ length cs
as_many_blocks [] [] h = refl
as_many_blocks [] (c ∷ cs) h = absurd (false≢true h)
as_many_blocks (b ∷ bs) [] h = absurd (false≢true h)
as_many_blocks (b ∷ bs) (c ∷ cs) h = ap suc (as_many_blocks bs cs (right_true (blocks_alike b c) (same_list blocks_alike bs cs) h))

-- ---- no block has phis

module _ (x : Name) where
  none_of_source : (bs cs : List Block) → same_list blocks_alike bs cs ≡ true → phis_of (block_named x bs) ≡ []
  none_of_source [] cs h = refl
  none_of_source (b ∷ bs) [] h = absurd (false≢true h)
  none_of_source (b ∷ bs) (c ∷ cs) h =
      let here = left_true (blocks_alike b c) (same_list blocks_alike bs cs) h in
      let rest = right_true (blocks_alike b c) (same_list blocks_alike bs cs) h in
      cond_both (same_name b.name x) (Some b) (block_named x bs) (λ (o : Option Block). phis_of o ≡ [])
      (λ e. none_there b.phis (no_phi_of_source b c here)) (λ e. none_of_source bs cs rest)

  none_of_target : (bs cs : List Block) → same_list blocks_alike bs cs ≡ true → phis_of (block_named x cs) ≡ []
  none_of_target [] [] h = refl
  none_of_target [] (c ∷ cs) h = absurd (false≢true h)
  none_of_target (b ∷ bs) [] h = refl
  none_of_target (b ∷ bs) (c ∷ cs) h =
      let here = left_true (blocks_alike b c) (same_list blocks_alike bs cs) h in
      let rest = right_true (blocks_alike b c) (same_list blocks_alike bs cs) h in
      cond_both (same_name c.name x) (Some c) (block_named x cs) (λ (o : Option Block). phis_of o ≡ [])
      (λ e. none_there c.phis (no_phi_of_target b c here)) (λ e. none_of_target bs cs rest)

-- ---- the whole check

module _ (rules : Rules) (scope : Scope) (f g : Function) (h : same_list blocks_alike f.blocks g.blocks ≡ true) where
  abbrev w : Beside
  w = beside rules scope f g nothing_said

  module _ (from : Name) (lines : ℕ) (few : 8 * lines ≤ fact_limit) where
    edge_alike : (to : Name) → edge_agrees w from lines to ≡ true
    edge_alike to =
        let none = none_of_source to f.blocks g.blocks h in
        let none_too = none_of_target to f.blocks g.blocks h in
        let enough : not (nat_lt fact_limit (8 * lines + 4 * length (phis_at to f))) ≡ true =
        ap (λ (ps : List Phi). not (nat_lt fact_limit (8 * lines + 4 * length ps))) none ∙ so_few (8 * lines + 4 * 0) (omega (arith, few)) in
        let agree : phis_agree from (phis_at to f) (phis_at to g) ≡ true =
        ap (λ (ps : List Phi). phis_agree from ps (phis_at to g)) none ∙ ap (λ (qs : List Phi). phis_agree from [] qs) none_too in
        all_true (all_true enough refl) agree

    edges_alike : (labels : List Name) → edges_agree w from lines labels ≡ true
    edges_alike [] = refl
    edges_alike (to ∷ more) = all_true (edge_alike to) (edges_alike more)

  block_valid : (b c : Block) → blocks_alike b c ≡ true → judged_answer (block_judged w (both_block b c)) ≡ Some verdict.Valid
  block_valid b c same =
      let ls = both_lines b.body c.body in
      let many = as_many_lines b.body c.body (same_lines b c same) in
      let few = few_so (8 * length b.body) (few_lines b c same) in
      let few_facts : not (nat_lt fact_limit (4 * length ls)) ≡ true = so_few (4 * length ls) (omega (arith, many, few)) in
      let labels = labels_once (successors_of b.term) in
      agreeing_blocks w (both_block b c) labels refl (record { entry = refl; steps = refl; edges = refl })
      (all_true (all_true (all_true few_facts (lines_agreeing b.body c.body (same_lines b c same))) (same_terms b c same))
      (edges_alike b.name (length ls) (omega (arith, many, few)) labels))

  judged_if : (m : Bool) (b c : Block) → blocks_alike b c ≡ true → judged_answer (cond m (block_judged w (both_block b c)) (Good [])) ≡ Some verdict.Valid
  judged_if true b c same = block_valid b c same
  judged_if false b c same = refl

  none_judged : (marks : List Bool) → judged_answer (blocks_judged w marks []) ≡ Some verdict.Valid
  none_judged [] = refl
  none_judged (true ∷ marks) = refl
  none_judged (false ∷ marks) = refl

  blocks_valid : (marks : List Bool) (bs cs : List Block) → same_list blocks_alike bs cs ≡ true → judged_answer (blocks_judged w marks (both_blocks bs cs)) ≡ Some verdict.Valid
  blocks_valid marks [] cs same = none_judged marks
  blocks_valid marks (b ∷ bs) [] same = none_judged marks
  blocks_valid [] (b ∷ bs) (c ∷ cs) same = refl
  blocks_valid (m ∷ marks) (b ∷ bs) (c ∷ cs) same =
      blocks_more w (both_block b c) (both_blocks bs cs) marks m (judged_if m b c (left_true (blocks_alike b c) (same_list blocks_alike bs cs) same))
      ∙ blocks_valid marks bs cs (right_true (blocks_alike b c) (same_list blocks_alike bs cs) same)

  reached_valid : (bs cs : List Block) → same_list blocks_alike bs cs ≡ true → judged_answer (reached_judged w (both_blocks bs cs)) ≡ Some verdict.Valid
  reached_valid [] cs same = refl
  reached_valid (b ∷ bs) [] same = refl
  reached_valid (b ∷ bs) (c ∷ cs) same =
      test_passes b.name spot.Start (entry_fault no_facts) no_facts (λ done. blocks_judged w (reached_nodes (flow_of f)) (both_blocks (b ∷ bs) (c ∷ cs))) refl
      ∙ blocks_valid (reached_nodes (flow_of f)) (b ∷ bs) (c ∷ cs) same

-- where the hint has no blocks
pub valid_at_once : (rules : Rules) (scope : Scope) (f g : Function) (hint : Hint) → hint.blocks ≡ [] → functions_alike f g ≡ true
    → function_answer (beside rules scope f g hint) ≡ Some verdict.Valid
valid_at_once rules scope f g hint none alike =
    let header = left_true (same_header f g) (same_list blocks_alike f.blocks g.blocks) alike in
    let same = right_true (same_header f g) (same_list blocks_alike f.blocks g.blocks) alike in
    let many = so_many (length f.blocks) (length g.blocks) (as_many_blocks f.blocks g.blocks same) in
    ap (λ (bs : List HintBlock). function_answer (beside rules scope f g (record { blocks = bs }))) none
    ∙ ap (λ a. judged_answer (aligned_judged (beside rules scope f g nothing_said) a))
    (cond-true (same_header f g && nat_eq (length f.blocks) (length g.blocks)) (blocks_aligned nothing_said (zip f.blocks g.blocks)) (Differs (first_block f.blocks)) (all_true header many)
    ∙ blocks_aligned_so f.blocks g.blocks same)
    ∙ reached_valid rules scope f g same f.blocks g.blocks same
