-- Where two runs of accepted functions start they are related.
use Rattle.std.proofs.Common.{◌≡◌, inl, true, false, ◌&&◌, ℕ, suc, List, [], ◌∷◌, ◌++◌, map, length, nat_eq, cond, Bool, Option, None, Some, refl, sym, ap, ◌∙◌, subst, subst₂, arith, ⊎_elim}
use Rattle.std.specs.List.{AllByRecursion, zip}
use Rattle.std.specs.Option.{option_map}
use Rattle.std.proofs.lemmas.Bool.{cond-true, cond-false, cases_Bool}
use Rattle.ir_types.specs.declared.names.Name.{Name}
use Rattle.ir_core.specs.declared.functions.Instr.{Instr}
use Rattle.ir_core.specs.declared.functions.Block.{Block}
use Rattle.ir_core.specs.Functions.{successors_of}
use Rattle.ir_types.specs.Same.{same_list, same_name, same_ty}
use Rattle.ir_types.specs.NameLaws.{left_true, right_true, same_nat_true, same_name_true}
use Rattle.ir_machine.specs.declared.inputs.Input.{Input}
use Rattle.ir_machine.specs.Registers.{Registers}
use Rattle.ir_machine.specs.State.{World, State}
use Rattle.ir_machine.specs.declared.inputs.InputPath.{InputPath}
use Rattle.ir_machine.specs.Starting.{misfit, started, started_unless, world_at_start}
use Rattle.flow_solver.specs.Near.{reached_nodes}
use Rattle.definedness.specs.Graph.{labels_in, places_in, graph_in, flow_of}
use Rattle.erhl_assert.specs.declared.facts.Fact.{Fact}
use Rattle.erhl_assert.specs.declared.facts.Assertion.{Assertion}
use Rattle.erhl_assert.specs.declared.hints.Letter.{Letter}
use Rattle.erhl_assert.specs.declared.hints.Letter.TheVariants.{Both, Source, Target}
use Rattle.erhl_assert.specs.declared.hints.Hint.{Hint}
use Rattle.erhl_assert.specs.declared.verdict.Reason.TheVariants.{AlignmentDiffers}
use Rattle.erhl_assert.specs.declared.verdict.Spot.TheVariants as spot
use Rattle.erhl_assert.specs.Sides.{IsFine, side_of}
use Rattle.erhl_assert.specs.Facts.{Holds, with_facts, each_once}
use Rattle.erhl_assert.specs.Alignment.{Line, AlignedBlock, Alignment, Aligned, Differs, after_first, aligned, letters_or_both, block_hint, block_aligned, with_block, blocks_aligned, same_param, same_header, first_block}
use Rattle.erhl_assert.specs.Course.{tested, IsGood}
use Rattle.erhl_assert.specs.Steps.{Beside}
use Rattle.erhl_assert.specs.Acceptance.{first_missing_of, entry_fault, hint_of_block, block_judged, blocks_judged, reached_judged, aligned_judged, Accepts}
use Rattle.erhl_assert.proofs.Courses.{good_parts, no_fault, bad_is_not_good}
use Rattle.erhl_soundness.specs.Laws.{AreApart, ArePhisApart}
use Rattle.erhl_soundness.specs.TwoSides.{HoldsMade}
use Rattle.erhl_soundness.proofs.Definitions.{AreDefined, AreLinesDefined, IsBlockDefined, blocks_defined, params_defined, none_defined}
use Rattle.erhl_soundness.proofs.Itself.{common_itself, itself, reading_itself}
use Rattle.erhl_soundness.proofs.Standing.{Run, run_of, side, Stand}
use Rattle.erhl_soundness.proofs.Judging.{block_good}
use Rattle.erhl_soundness.proofs.Relation.{source_lines, target_lines, own_lines, IsAligned, Marked, source_of, target_of, mark_of, running, IsBlockFine, all_fine, IsPairFine, AreStartsRelated}
use Rattle.erhl_soundness.proofs.Entering.{at_entry_is, entering, entering_defined, entering_same, entry_at, misfit_same}
use Rattle.erhl_soundness.proofs.FineSides.{begins}
use Rattle.erhl_soundness.proofs.Reached.{marked, marked_blocks, all_marked, marked_good, marked_lead_on, first_reached}

-- ---- aligned lines give both bodies back

after_first_some : (l : Line) (o : Option (List Line)) (ls : List Line) → after_first l o ≡ Some ls → (rest : List Line) × (o ≡ Some rest) × (ls ≡ l ∷ rest)
after_first_some l None ls h = absurd (cc)
after_first_some l (Some rest) ls h = (rest, refl, cc)

aligned_gives_back : (letters : List Letter) (xs ys : List Instr) (ls : List Line) → aligned letters xs ys ≡ Some ls
    → (xs ≡ source_lines ls) × (ys ≡ target_lines ls)
aligned_gives_back [] [] [] ls h = let e : ls ≡ [] = cc in (ap source_lines (sym e), ap target_lines (sym e))
aligned_gives_back [] [] (y ∷ ys) ls h = absurd (cc)
aligned_gives_back [] (x ∷ xs) ys ls h = absurd (cc)
aligned_gives_back (Both ∷ letters) (x ∷ xs) (y ∷ ys) ls h =
    let l : Line = record { source = Some x; target = Some y } in
    let r = after_first_some l (aligned letters xs ys) ls h in
    let back = aligned_gives_back letters xs ys r.0 r.1 in
    (ap (λ left. x ∷ left) back.0 ∙ ap source_lines (sym r.2), ap (λ left. y ∷ left) back.1 ∙ ap target_lines (sym r.2))
aligned_gives_back (Both ∷ letters) (x ∷ xs) [] ls h = absurd (cc)
aligned_gives_back (Both ∷ letters) [] ys ls h = absurd (cc)
aligned_gives_back (Source ∷ letters) (x ∷ xs) ys ls h =
    let l : Line = record { source = Some x; target = None } in
    let r = after_first_some l (aligned letters xs ys) ls h in
    let back = aligned_gives_back letters xs ys r.0 r.1 in
    (ap (λ left. x ∷ left) back.0 ∙ ap source_lines (sym r.2), back.1 ∙ ap target_lines (sym r.2))
aligned_gives_back (Source ∷ letters) [] ys ls h = absurd (cc)
aligned_gives_back (Target ∷ letters) xs (y ∷ ys) ls h =
    let l : Line = record { source = None; target = Some y } in
    let r = after_first_some l (aligned letters xs ys) ls h in
    let back = aligned_gives_back letters xs ys r.0 r.1 in
    (back.0 ∙ ap source_lines (sym r.2), ap (λ left. y ∷ left) back.1 ∙ ap target_lines (sym r.2))
aligned_gives_back (Target ∷ letters) xs [] ls h = absurd (cc)

-- ---- aligned blocks give both functions back

-- a block that is aligned, as the two that it was made of
record IsOf (b c : Block) (a : AlignedBlock) : Type 0 where
  source : a.source ≡ b
  target : a.target ≡ c
  fine : IsAligned a

lines_fine : (b c : Block) (same : Bool) (letters : List Letter) (a : AlignedBlock) → (same ≡ true → c.name ≡ b.name)
    → option_map (λ ls. record { lines = ls; source = b; target = c }) (cond same (aligned letters b.body c.body) None) ≡ Some a → IsOf b c a
lines_fine b c false letters a names h = absurd (cc)
lines_fine b c true letters a names h = go (aligned letters b.body c.body) refl h
  where
    go : (o : Option (List Line)) → aligned letters b.body c.body ≡ o → option_map (λ ls. record { lines = ls; source = b; target = c }) o ≡ Some a → IsOf b c a
    go None is e = absurd (cc)
    go (Some ls) is e =
        let made : AlignedBlock = record { lines = ls; source = b; target = c } in
        let same : made ≡ a = cc in
        let back = aligned_gives_back letters b.body c.body ls is in
        subst (IsOf b c) same (record { source = refl; target = refl; fine = record { names = names refl; source = back.0; target = back.1 } })

block_fine : (hint : Hint) (b c : Block) (a : AlignedBlock) → block_aligned hint b c ≡ Some a → IsOf b c a
block_fine hint b c a h =
    lines_fine b c (same_name b.name c.name) (letters_or_both (block_hint hint b.name).lines (length b.body)) a (λ e. sym (same_name_true b.name c.name e)) h

with_block_parts : (x : Name) (o : Option AlignedBlock) (rest : Alignment) (bs : List AlignedBlock) → with_block x o rest ≡ Aligned bs
    → (a : AlignedBlock) × (more : List AlignedBlock) × (o ≡ Some a) × (rest ≡ Aligned more) × (bs ≡ a ∷ more)
with_block_parts x None rest bs h = absurd (cc)
with_block_parts x (Some a) (Aligned more) bs h = (a, more, refl, refl, cc)
with_block_parts x (Some a) (Differs y) bs h = absurd (cc)

-- the blocks of two functions, aligned
record AreOf (fs gs : List Block) (bs : List AlignedBlock) : Type 0 where
  source : fs ≡ map (λ (b : AlignedBlock). b.source) bs
  target : gs ≡ map (λ (b : AlignedBlock). b.target) bs
  fine : AllByRecursion IsAligned bs

cons_same : {A : Type 0} {x y : A} {xs ys : List A} → x ≡ y → xs ≡ ys → x ∷ xs ≡ y ∷ ys
cons_same p q = cc

blocks_back : (hint : Hint) (fs gs : List Block) (bs : List AlignedBlock) → length fs ≡ length gs → blocks_aligned hint (zip fs gs) ≡ Aligned bs → AreOf fs gs bs
blocks_back hint [] [] bs long h = let e : [] ≡ bs = cc in subst (AreOf [] []) e (record { source = refl; target = refl; fine = tt })
blocks_back hint [] (g ∷ gs) bs long h = absurd (omega (arith, long))
blocks_back hint (f ∷ fs) [] bs long h = absurd (omega (arith, long))
blocks_back hint (f ∷ fs) (g ∷ gs) bs long h =
    let parts = with_block_parts f.name (block_aligned hint f g) (blocks_aligned hint (zip fs gs)) bs h in
    let first = block_fine hint f g parts.0 parts.2 in
    let more = blocks_back hint fs gs parts.1 (omega (arith, long)) parts.3 in
    subst (AreOf (f ∷ fs) (g ∷ gs)) (sym parts.4) (record {
      source = cons_same (sym first.source) more.source;
      target = cons_same (sym first.target) more.target;
      fine = (first.fine, more.fine);
    })

-- an entry without a fault claims no fact
claims_nothing : (fs gs : List Fact) → first_missing_of (fs ++ gs) ≡ None → (fs ≡ []) × (gs ≡ [])
claims_nothing [] [] h = (refl, refl)
claims_nothing [] (g ∷ gs) h = absurd (cc)
claims_nothing (f ∷ fs) gs h = absurd (cc)

-- ---- an accepted pair

-- equal headers, as many blocks, which align, and of which those that are reached are good
record Parts (w : Beside) : Type 0 where
  header : same_header w.source w.target ≡ true
  blocks : List AlignedBlock
  back : AreOf w.source.blocks w.target.blocks blocks
  good : IsGood (reached_judged w blocks)

aligned_parts : (w : Beside) (a : Alignment) → IsGood (aligned_judged w a) → (bs : List AlignedBlock) × (a ≡ Aligned bs) × IsGood (reached_judged w bs)
aligned_parts w (Aligned bs) h = (bs, refl, h)
aligned_parts w (Differs x) h = absurd (bad_is_not_good [] x spot.Start AlignmentDiffers h)

parts_of : (w : Beside) → Accepts w → Parts w
parts_of w h =
    let f = w.source in
    let g = w.target in
    let long = nat_eq (length f.blocks) (length g.blocks) in
    let test = same_header f g && long in
    let blocks = blocks_aligned w.hint (zip f.blocks g.blocks) in
    let fault = Differs (first_block f.blocks) in
    let passes : test ≡ true = ⊎_elim
    (λ e. e)
    (λ e.
    absurd (bad_is_not_good [] (first_block f.blocks) spot.Start AlignmentDiffers
    (subst (λ a. IsGood (aligned_judged w a)) (cond-false test blocks fault e) h)))
    (cases_Bool test) in
    let found = aligned_parts w blocks (subst (λ a. IsGood (aligned_judged w a)) (cond-true test blocks fault passes) h) in
    record {
      header = left_true (same_header f g) long passes;
      blocks = found.0;
      back = blocks_back w.hint f.blocks g.blocks found.0 (same_nat_true (length f.blocks) (length g.blocks) (right_true (same_header f g) long passes)) found.1;
      good = found.2;
    }

length-mapped : {A B : Type 0} (f : A → B) (xs : List A) → length (map f xs) ≡ length xs
length-mapped f [] = refl
length-mapped f (x ∷ xs) = ap suc (length-mapped f xs)

-- no fact is claimed of the entry
abbrev ClaimsNothing : Beside → List AlignedBlock → Type 0
ClaimsNothing w [] = Unit {0}
ClaimsNothing w (b ∷ bs) = ((hint_of_block w b).entry.src ≡ []) × ((hint_of_block w b).entry.tgt ≡ [])

entry_claims_nothing : (w : Beside) (bs : List AlignedBlock) → IsGood (reached_judged w bs) → ClaimsNothing w bs
entry_claims_nothing w [] good = tt
entry_claims_nothing w (b ∷ bs) good =
    let entry = (hint_of_block w b).entry in
    let next = λ (done : Assertion). blocks_judged w (reached_nodes (flow_of w.source)) (b ∷ bs) in
    let parts = good_parts b.source.name spot.Start (tested (entry_fault entry) entry) next good in
    claims_nothing entry.src entry.tgt (no_fault (entry_fault entry) entry parts.0 parts.1).0

module _ (w : Beside) where
  abbrev graph : List (List ℕ)
  graph = flow_of w.source

  abbrev marks_of : List AlignedBlock → List Marked
  marks_of bs = marked graph 0 bs

  blocks_marked_good : (bs : List AlignedBlock) → length graph ≡ length bs → IsGood (reached_judged w bs)
      → AllByRecursion (λ (z : Marked). z.0 ≡ true → IsGood (block_judged w z.1)) (marks_of bs)
  blocks_marked_good [] long good = tt
  blocks_marked_good (b ∷ bs) long good =
      let entry = (hint_of_block w b).entry in
      let next = λ (done : Assertion). blocks_judged w (reached_nodes graph) (b ∷ bs) in
      let parts = good_parts b.source.name spot.Start (tested (entry_fault entry) entry) next good in
      marked_good graph w 0 (length graph) (b ∷ bs) long parts.2

  pair_is_fine : (parts : Parts w) → ArePhisApart w.source → ArePhisApart w.target → IsPairFine w (marks_of parts.blocks)
  pair_is_fine parts source_apart target_apart =
      let bs = parts.blocks in
      let is_source : w.source.blocks ≡ map source_of (marks_of bs) = parts.back.source ∙ sym (marked_blocks graph (λ (b : AlignedBlock). b.source) 0 bs) in
      let is_target : w.target.blocks ≡ map target_of (marks_of bs) = parts.back.target ∙ sym (marked_blocks graph (λ (b : AlignedBlock). b.target) 0 bs) in
      let sources = map (λ (b : AlignedBlock). b.source) bs in
      let long : length graph ≡ length bs =
      length-mapped (λ (b : Block). places_in (labels_in w.source.blocks) (successors_of b.term)) w.source.blocks
      ∙ ap length parts.back.source ∙ length-mapped (λ (b : AlignedBlock). b.source) bs in
      record {
        fine = all_fine w (λ to. mark_of to (marks_of bs)) (marks_of bs)
            (all_marked graph IsAligned 0 bs parts.back.fine)
            (marked_lead_on graph w bs (ap (λ blocks. graph_in (labels_in blocks) blocks) parts.back.source))
            (blocks_marked_good bs long parts.good)
            (subst (AllByRecursion (λ (b : Block). AreApart b.phis)) is_source source_apart)
            (subst (AllByRecursion (λ (b : Block). AreApart b.phis)) is_target target_apart)
            (subst (AllByRecursion (IsBlockDefined w.source)) is_source (blocks_defined w.source));
        source_blocks = is_source;
        target_blocks = is_target;
      }

  -- ---- the start of a run

  module _ (world : World) where
    abbrev begun : Registers → Run
    begun registers = run_of (side_of w.scope registers [] world)

    abbrev Begins : Registers → Type 0
    Begins registers = IsFine (side w.scope (begun registers)) × HoldsMade (side w.scope (begun registers))

    facts_none : (registers : Registers) (fs : List Fact) → fs ≡ [] → AllByRecursion (Holds (side w.scope (begun registers))) (with_facts fs [])
    facts_none registers fs none = subst (λ gs. AllByRecursion (Holds (side w.scope (begun registers))) (with_facts gs [])) (sym none) tt

    -- each block stands for itself
    begun_stand : (lists : Assertion) (registers : Registers) → Begins registers → AreDefined w.source registers → lists.src ≡ [] → lists.tgt ≡ []
        → Stand w (itself world.memory) (each_once lists) (begun registers) (begun registers)
    begun_stand lists registers begins defined no_src no_tgt =
        let here = side w.scope (begun registers) in record {
          sides = record {
            common = common_itself here begins.0 begins.1 (λ b. refl);
            source_fine = begins.0;
            target_fine = begins.0;
            source_made = begins.1;
            target_made = begins.1;
          };
          now_defined = defined;
          old_defined = none_defined w.source;
          holds = record {
            source_facts = facts_none registers lists.src no_src;
            target_facts = facts_none registers lists.tgt no_tgt;
            related = record { outside = λ r k out. reading_itself here begins.0 begins.1 k r; ghosts = λ g k shared. tt };
          };
        }

    abbrev AreStarts : Option State → Option State → Type 0
    AreStarts = AreStartsRelated w.rules w.scope

    module _ (blocks : List Marked) (pair : IsPairFine w blocks) (registers : Registers) (begins : Begins registers) (defined : AreDefined w.source registers) where
      entries_start : (bs : List AlignedBlock) → AllByRecursion (IsBlockFine w (λ to. mark_of to blocks)) (marks_of bs) → ClaimsNothing w bs
          → AreStarts (entry_at world w.source (map (λ (b : AlignedBlock). b.source) bs) registers) (entry_at world w.target (map (λ (b : AlignedBlock). b.target) bs) registers)
      entries_start [] fine nothing = tt
      entries_start (b ∷ bs) fine nothing =
          let good = fine.0 in
          let reached = first_reached graph in (
            own_lines b.lines,
            inl (record {
              source = w.source;
              target = w.target;
              hint = w.hint;
              blocks = blocks;
              pair_fine = pair;
              block = b;
              place = 0;
              left = b.lines;
              known = each_once (hint_of_block w b).entry;
              pairs = itself world.memory;
              source_run = begun registers;
              target_run = begun registers;
              stand = begun_stand (hint_of_block w b).entry registers begins defined nothing.0 nothing.1;
              good = block_good w b (good.good reached);
              names = good.aligned.names;
              onward = good.onward reached;
              defined = subst (AreLinesDefined w.source) good.aligned.source good.defined.1;
              is_k = refl;
              is_s = ap (running w.source b.source (begun registers)) good.aligned.source;
              is_t = ap (running w.target b.target (begun registers)) good.aligned.target;
            }),
          )

  -- functions that are accepted start related, whatever they are entered on
  module _ (accepted : Accepts w) (source_apart : ArePhisApart w.source) (target_apart : ArePhisApart w.target) (input : Input) where
    abbrev world : World
    world = world_at_start w.scope input

    abbrev parts : Parts w
    parts = parts_of w accepted

    params_alike : same_list same_param w.source.params w.target.params ≡ true
    params_alike = right_true (same_ty w.source.result w.target.result) (same_list same_param w.source.params w.target.params) parts.header

    starts_unless : (o : Option InputPath) → misfit w.scope w.source.params input ≡ o
        → AreStartsRelated w.rules w.scope (started_unless o world w.source input.args) (started_unless o world w.target input.args)
    starts_unless (Some place) misfits = tt
    starts_unless None fit =
        let pair = pair_is_fine parts source_apart target_apart in
        let registers = entering world w.source.params input.args in
        subst₂ (AreStartsRelated w.rules w.scope)
        (ap (λ fs. entry_at world w.source fs registers) (sym parts.back.source) ∙ sym (at_entry_is world w.source w.source.blocks input.args))
        (ap (λ gs. entry_at world w.target gs registers) (sym parts.back.target)
        ∙ ap (entry_at world w.target w.target.blocks) (entering_same world w.source.params w.target.params input.args params_alike)
        ∙ sym (at_entry_is world w.target w.target.blocks input.args))
        (entries_start world (marks_of parts.blocks) pair registers
        (begins w.scope input w.source fit) (entering_defined world w.source w.source.params input.args (params_defined w.source))
        parts.blocks pair.fine (entry_claims_nothing w parts.blocks parts.good))

    pub accepted_start : AreStartsRelated w.rules w.scope (started w.scope w.source input) (started w.scope w.target input)
    accepted_start =
        subst (λ o. AreStartsRelated w.rules w.scope (started w.scope w.source input) (started_unless o world w.target input.args))
        (misfit_same w.scope input w.source.params w.target.params params_alike) (starts_unless (misfit w.scope w.source.params input) refl)
