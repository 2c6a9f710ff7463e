-- THE RELATION of whole states, and the blocks that two functions have.
use Rattle.std.proofs.Common.{◌≡◌, ◌⊎◌, inl, inr, Bool, true, false, cond, ℕ, zero, suc, List, [], ◌∷◌, map, Option, None, Some, refl, ap, ◌∙◌, ⊎_elim}
use Rattle.std.specs.List.{AllByRecursion}
use Rattle.std.proofs.lemmas.Bool.{cases_Bool, cond-true, cond-false}
use Rattle.ir_types.specs.declared.names.Name.{Name}
use Rattle.ir_core.specs.declared.functions.Instr.{Instr}
use Rattle.ir_core.specs.declared.functions.Block.{Block}
use Rattle.ir_core.specs.declared.functions.Function.{Function}
use Rattle.ir_core.specs.Functions.{successors_of}
use Rattle.ir_types.specs.Same.{same_name}
use Rattle.ir_types.specs.NameLaws.{same_name_true}
use Rattle.ir_values.specs.Constants.{Scope}
use Rattle.ir_values.specs.Related.{Pairing}
use Rattle.ir_machine.specs.State.{Frame, State, Running, Over}
use Rattle.ir_machine.specs.Machine.{block_named}
use Rattle.erhl_assert.specs.declared.facts.Assertion.{Assertion}
use Rattle.erhl_assert.specs.declared.hints.Hint.{Hint}
use Rattle.erhl_assert.specs.Alignment.{Line, AlignedBlock}
use Rattle.erhl_assert.specs.Course.{IsGood}
use Rattle.erhl_assert.specs.Steps.{Rules, Beside, beside}
use Rattle.erhl_assert.specs.Acceptance.{lines_judged, block_judged}
use Rattle.erhl_soundness.proofs.Definitions.{AreLinesDefined, IsBlockDefined}
use Rattle.erhl_soundness.specs.Laws.{AreApart}
use Rattle.erhl_soundness.proofs.Standing.{Run, Stand}

-- the lines with one before them, or with a no-op
abbrev pub with_line : Option Instr → List Instr → List Instr
with_line None left = left
with_line (Some i) left = i ∷ left

-- the lines of each side among aligned lines
abbrev pub source_lines : List Line → List Instr
source_lines [] = []
source_lines (l ∷ ls) = with_line l.source (source_lines ls)

abbrev pub target_lines : List Line → List Instr
target_lines [] = []
target_lines (l ∷ ls) = with_line l.target (target_lines ls)

-- how many lines of the source alone stand before the target's next step
abbrev pub own_before : Option Instr → Option Instr → ℕ → ℕ
own_before None None n = n
own_before (Some i) None n = suc n
own_before None (Some j) n = zero
own_before (Some i) (Some j) n = zero

abbrev pub own_lines : List Line → ℕ
own_lines [] = zero
own_lines (l ∷ ls) = own_before l.source l.target (own_lines ls)

-- two blocks of one name, with all of their lines
pub record IsAligned (b : AlignedBlock) : Type 0 where
  pub names : b.target.name ≡ b.source.name
  pub source : b.source.body ≡ source_lines b.lines
  pub target : b.target.body ≡ target_lines b.lines

-- aligned blocks, each with whether a path reaches it
abbrev pub Marked : Type 0
Marked = Bool × AlignedBlock

abbrev pub source_of : Marked → Block
source_of z = z.1.source

abbrev pub target_of : Marked → Block
target_of z = z.1.target

-- the mark of the first block of that name; a jump to a block that isn't there needs none
abbrev pub mark_of : Name → List Marked → Bool
mark_of to [] = true
mark_of to (z ∷ zs) = cond (same_name z.1.source.name to) z.0 (mark_of to zs)

-- an activation in a block, with these lines left
abbrev pub frame_of : Function → Block → Run → List Instr → Frame
frame_of f b r lines = record { function = f; block = b.name; lines = lines; term = b.term; registers = r.files.now; own = r.own }

-- the only activation of a run
abbrev pub running : Function → Block → Run → List Instr → State
running f b r lines = Running (frame_of f b r lines) [] r.world

module _ (w : Beside) (reached : Name → Bool) where
  abbrev pub LeadsOn : Block → Type 0
  LeadsOn b = AllByRecursion (λ to. reached to ≡ true) (successors_of b.term)

  -- what is known of each pair of blocks, once and for all
  pub record IsBlockFine (z : Marked) : Type 0 where
    pub aligned : IsAligned z.1
    pub onward : z.0 ≡ true → LeadsOn z.1.source
    pub good : z.0 ≡ true → IsGood (block_judged w z.1)
    pub source_apart : AreApart z.1.source.phis
    pub target_apart : AreApart z.1.target.phis
    pub defined : IsBlockDefined w.source z.1.source

  -- a label leads to one pair of blocks, the first of its name, or to none on both sides
  abbrev pub Found : Name → List Marked → Type 0
  Found to zs = ((block_named to (map source_of zs) ≡ None) × (block_named to (map target_of zs) ≡ None))
      ⊎ ((z : Marked) × (block_named to (map source_of zs) ≡ Some z.1.source) × (block_named to (map target_of zs) ≡ Some z.1.target)
      × (mark_of to zs ≡ z.0) × (z.1.source.name ≡ to) × IsBlockFine z)

  pub found : (to : Name) (zs : List Marked) → AllByRecursion IsBlockFine zs → Found to zs
  found to [] all = inl (refl, refl)
  found to (z ∷ zs) all = ⊎_elim
      (λ (e : same_name z.1.source.name to ≡ true). inr (
        z,
        cond-true (same_name z.1.source.name to) (Some z.1.source) (block_named to (map source_of zs)) e,
        cond-true (same_name z.1.target.name to) (Some z.1.target) (block_named to (map target_of zs)) (ap (λ (x : Name). same_name x to) all.0.aligned.names ∙ e),
        cond-true (same_name z.1.source.name to) z.0 (mark_of to zs) e,
        same_name_true z.1.source.name to e,
        all.0,
      ))
      (λ (e : same_name z.1.source.name to ≡ false).
      let first : block_named to (map source_of (z ∷ zs)) ≡ block_named to (map source_of zs) =
      cond-false (same_name z.1.source.name to) (Some z.1.source) (block_named to (map source_of zs)) e in
      let second : block_named to (map target_of (z ∷ zs)) ≡ block_named to (map target_of zs) =
      cond-false (same_name z.1.target.name to) (Some z.1.target) (block_named to (map target_of zs)) (ap (λ (x : Name). same_name x to) all.0.aligned.names ∙ e) in
      let mark : mark_of to (z ∷ zs) ≡ mark_of to zs = cond-false (same_name z.1.source.name to) z.0 (mark_of to zs) e in
      ⊎_elim (λ h. inl (first ∙ h.0, second ∙ h.1)) (λ h. inr (h.0, first ∙ h.1, second ∙ h.2, mark ∙ h.3, h.4, h.5)) (found to zs all.1))
      (cases_Bool (same_name z.1.source.name to))

  pub all_fine : (zs : List Marked) → AllByRecursion (λ (z : Marked). IsAligned z.1) zs
      → AllByRecursion (λ (z : Marked). z.0 ≡ true → LeadsOn z.1.source) zs
      → AllByRecursion (λ (z : Marked). z.0 ≡ true → IsGood (block_judged w z.1)) zs
      → AllByRecursion (λ (b : Block). AreApart b.phis) (map source_of zs) → AllByRecursion (λ (b : Block). AreApart b.phis) (map target_of zs)
      → AllByRecursion (IsBlockDefined w.source) (map source_of zs) → AllByRecursion IsBlockFine zs
  all_fine [] aligned onward good source target defined = tt
  all_fine (z ∷ zs) aligned onward good source target defined = (
    record { aligned = aligned.0; onward = onward.0; good = good.0; source_apart = source.0; target_apart = target.0; defined = defined.0 },
    all_fine zs aligned.1 onward.1 good.1 source.1 target.1 defined.1,
  )

pub record IsPairFine (w : Beside) (blocks : List Marked) : Type 0 where
  pub fine : AllByRecursion (IsBlockFine w (λ to. mark_of to blocks)) blocks
  pub source_blocks : w.source.blocks ≡ map source_of blocks
  pub target_blocks : w.target.blocks ≡ map target_of blocks

module _ (rules : Rules) (scope : Scope) where
  -- The only activations of two runs stand at one place of two aligned blocks, each in a world of its own; all that is left is judged good, and by
  -- some pairs of blocks the invariant holds. Each pair of functions has its own hint. No call waits, as no line that is allowed calls.
  pub record AreRunning (k : ℕ) (s t : State) : Type 0 where
    pub source : Function
    pub target : Function
    pub hint : Hint
    pub blocks : List Marked
    pub pair_fine : IsPairFine (beside rules scope source target hint) blocks
    pub block : AlignedBlock
    pub place : ℕ
    pub left : List Line
    pub known : Assertion
    pub pairs : Pairing
    pub source_run : Run
    pub target_run : Run
    pub stand : Stand (beside rules scope source target hint) pairs known source_run target_run
    pub good : IsGood (lines_judged (beside rules scope source target hint) block place left known)
    pub names : block.target.name ≡ block.source.name
    pub onward : LeadsOn (beside rules scope source target hint) (λ to. mark_of to blocks) block.source
    pub defined : AreLinesDefined source (source_lines left)
    pub is_k : k ≡ own_lines left
    pub is_s : s ≡ running source block.source source_run (source_lines left)
    pub is_t : t ≡ running target block.target target_run (target_lines left)

  -- or both runs are over
  abbrev pub AreStatesRelated : ℕ → State → State → Type 0
  AreStatesRelated k s t = AreRunning k s t ⊎ ((s ≡ Over) × (t ≡ Over))

  -- where the target starts, so does the source, and the two starts are related
  abbrev pub AreStartsRelated : Option State → Option State → Type 0
  AreStartsRelated s None = Unit {0}
  AreStartsRelated None (Some t) = ⊥
  AreStartsRelated (Some s) (Some t) = (k : ℕ) × AreStatesRelated k s t
