-- Related states make related moves: over aligned lines.
use Rattle.std.proofs.Common.{◌≡◌, inl, inr, ℕ, suc, ◌+◌, ◌&&◌, pos, true, List, [], ◌∷◌, length, Option, None, Some, refl, sym, subst, subst₂, Bool}
use Rattle.std.specs.Option.{is_none}
use Rattle.ir_types.specs.declared.named.NamedTy.{NamedTy}
use Rattle.ir_types.specs.declared.names.Name.{Name}
use Rattle.ir_types.specs.NameLaws.{left_true}
use Rattle.ir_core.specs.declared.functions.Alloca.{Alloca}
use Rattle.ir_core.specs.declared.functions.Calm.{Calm}
use Rattle.ir_core.specs.declared.functions.Instr.{Instr}
use Rattle.ir_core.specs.declared.functions.Instr.TheVariants as line
use Rattle.ir_core.specs.declared.functions.Function.{Function}
use Rattle.ir_core.specs.declared.functions.Block.{Block}
use Rattle.ir_core.specs.declared.modules.Module.{Module}
use Rattle.ir_core.specs.declared.values.Kind.TheVariants as kind
use Rattle.ir_core.specs.declared.values.Value.TheVariants as value
use Rattle.ir_core.specs.Expressions.{type_of}
use Rattle.ir_core.specs.Types.{is_pointer, kind_of}
use Rattle.ir_values.specs.declared.operations.Outcome.{Outcome}
use Rattle.ir_values.specs.declared.operations.Outcome.TheVariants.{Gives, Trap}
use Rattle.ir_values.specs.Related.{Pairing}
use Rattle.block_memory.specs.Memory.{Memory}
use Rattle.ir_machine.specs.declared.items.Item.TheVariants.{Wrong}
use Rattle.ir_values.proofs.ConstantValues.{pointer_kind}
use Rattle.ir_values.specs.Constants.{Scope}
use Rattle.ir_machine.specs.Registers.{outcome, read}
use Rattle.ir_machine.specs.State.{scope_of, State, Over}
use Rattle.ir_machine.specs.Machine.{Does, wrong, Made, Follows, asks, stored_by}
use Rattle.erhl_assert.specs.declared.facts.Assertion.{Assertion}
use Rattle.erhl_assert.specs.Alignment.{Line, AlignedBlock}
use Rattle.erhl_assert.specs.Allowed.{line_fault, line_fault_of, same_slot, slot_fault}
use Rattle.erhl_assert.specs.declared.verdict.Reason.TheVariants.{KindsDiffer}
use Rattle.erhl_assert.specs.Postcondition.{after_line}
use Rattle.erhl_assert.specs.Course.{IsGood}
use Rattle.erhl_assert.specs.Steps.{Beside, AreSound, steps_at}
use Rattle.erhl_assert.specs.Acceptance.{hint_of_block, lines_judged}
use Rattle.erhl_assert.specs.Facts.{AssertionHolds}
use Rattle.erhl_assert.specs.Sides.{SideState, no_ghost}
use Rattle.erhl_soundness.specs.TwoSides.{AreSides, Keeps, LeadsTo, LeadsWrong, LineLeads}
use Rattle.erhl_soundness.proofs.Leading.{set_by, side_led, stored_in}
use Rattle.erhl_soundness.proofs.Related.{leads_so, source_may, target_may, keeps_so}
use Rattle.erhl_soundness.proofs.Definitions.{AreDefined, IsDefined, IsLineDefined, AreLinesDefined, set_defined}
use Rattle.erhl_soundness.proofs.Standing.{Run, run_of, side, Stand, with_ghost}
use Rattle.erhl_soundness.proofs.Steps.{passed, steps_lead}
use Rattle.erhl_soundness.proofs.Judging.{line_good}
use Rattle.erhl_soundness.proofs.Relation.{Marked, mark_of, with_line, source_lines, target_lines, own_before, own_lines, frame_of, running, LeadsOn, IsPairFine, AreStatesRelated}
use Rattle.erhl_soundness.proofs.Simulation.{Stays, Matches, GoesWrong, Moves}

-- ---- the invariant over a line

-- a line, or a no-op, whose register its function defines so
abbrev pub IsDefinedAt : Function → Option Instr → Type 0
IsDefinedAt f None = Unit {0}
IsDefinedAt f (Some i) = IsLineDefined f i

-- an alloca's register is said to be a pointer
abbrev IsSlotPointer : Option Instr → Type 0
IsSlotPointer None = Unit {0}
IsSlotPointer (Some (line.Calm l)) = Unit {0}
IsSlotPointer (Some (line.Alloca a)) = kind_of a.to ≡ Some kind.Ptr
IsSlotPointer (Some (line.Store s)) = Unit {0}
IsSlotPointer (Some (line.Call c)) = Unit {0}

no_slot_fault : (a : Alloca) (alike : Bool) → slot_fault a alike ≡ None → kind_of a.to ≡ Some kind.Ptr
no_slot_fault a alike h = pointer_kind a.to (left_true (is_pointer a.to) alike (passed (is_pointer a.to && alike) KindsDiffer h))

slot_pointer : (types : List NamedTy) (known : Assertion) (i j : Option Instr) → line_fault_of types known i j ≡ None → IsSlotPointer i
slot_pointer types known None j allowed = tt
slot_pointer types known (Some (line.Calm l)) j allowed = tt
slot_pointer types known (Some (line.Store s)) j allowed = tt
slot_pointer types known (Some (line.Call c)) j allowed = tt
slot_pointer types known (Some (line.Alloca a)) None allowed = no_slot_fault a true allowed
slot_pointer types known (Some (line.Alloca a)) (Some (line.Alloca b)) allowed = no_slot_fault a (same_slot types a b) allowed
slot_pointer types known (Some (line.Alloca a)) (Some (line.Calm l)) allowed = absurd (cc)
slot_pointer types known (Some (line.Alloca a)) (Some (line.Store s)) allowed = absurd (cc)
slot_pointer types known (Some (line.Alloca a)) (Some (line.Call c)) allowed = absurd (cc)

-- a side, if there is one, of those types and globals, whose registers hold kinds of their definitions
abbrev EntersSo : Scope → Function → Option SideState → Type 0
EntersSo scope f None = Unit {0}
EntersSo scope f (Some s) = (s.scope ≡ scope) × AreDefined f s.files.now × AreDefined f s.files.old

module _ (f : Function) (one_sided : Bool) (s : SideState) (now : AreDefined f s.files.now) (old : AreDefined f s.files.old) where
  calm_enters : (l : Calm) (o : Outcome) → IsLineDefined f (line.Calm l) → EntersSo s.scope f (set_by l o s)
  calm_enters l Trap defined = tt
  calm_enters l (Gives v) defined = (refl, set_defined f s.files.now l.name (kind_of (type_of l.right)) v now defined, old)

  store_enters : (o : Option Memory) → EntersSo s.scope f (stored_in o s)
  store_enters None = tt
  store_enters (Some memory) = (refl, now, old)

  line_enters : (i : Option Instr) → IsSlotPointer i → IsDefinedAt f i → EntersSo s.scope f (side_led one_sided i s)
  line_enters None pointer defined = (refl, now, old)
  line_enters (Some (line.Calm l)) pointer defined = calm_enters l (outcome s.scope (read s.files.now) s.world.memory l.right) defined
  line_enters (Some (line.Alloca a)) pointer defined = (
    refl,
    set_defined f s.files.now a.name (Some kind.Ptr) (value.Ptr (length s.world.memory) (pos 0)) now (subst (IsDefined f a.name) pointer defined),
    old,
  )
  line_enters (Some (line.Store t)) pointer defined = store_enters (stored_by s.scope t s.files.now s.world.memory)
  line_enters (Some (line.Call c)) pointer defined = tt

-- a side, if there is one, of those types and globals
abbrev IsOfScope : Scope → Option SideState → Type 0
IsOfScope scope None = Unit {0}
IsOfScope scope (Some s) = s.scope ≡ scope

-- The source has undefined behaviour; or neither side has, and by some pairs the two stand where their lines lead.
abbrev pub StandAfter : Beside → Assertion → Option SideState → Option SideState → Type 0
StandAfter w known None p = Unit {0}
StandAfter w known (Some s) None = ⊥
StandAfter w known (Some s) (Some t) = (ps : Pairing) × Stand w ps known (run_of s) (run_of t)

module _ (w : Beside) (ps : Pairing) (after : Assertion) (source target : SideState) where
  stand_after : (o p : Option SideState) → EntersSo w.scope w.source o → IsOfScope w.scope p → Keeps ps after source target o p → StandAfter w after o p
  stand_after None p enters of_scope keeps = tt
  stand_after (Some s) None enters of_scope keeps = keeps
  stand_after (Some s) (Some t) enters of_scope keeps = (
    keeps.0,
    record {
      sides = subst₂ (λ x y. AreSides keeps.0 (side x (run_of s)) (side y (run_of t))) enters.0 of_scope keeps.2;
      now_defined = enters.1;
      old_defined = enters.2;
      holds = subst₂ (λ x y. AssertionHolds keeps.0 no_ghost after (side x (run_of s)) (side y (run_of t))) enters.0 of_scope keeps.3;
    },
  )

-- whatever its registers hold
scope_stays : (one_sided : Bool) (i : Option Instr) (s : SideState) → IsOfScope s.scope (side_led one_sided i s)
scope_stays one_sided None s = refl
scope_stays one_sided (Some (line.Calm l)) s = at (outcome s.scope (read s.files.now) s.world.memory l.right)
  where
    at : (o : Outcome) → IsOfScope s.scope (set_by l o s)
    at Trap = tt
    at (Gives v) = refl
scope_stays one_sided (Some (line.Alloca a)) s = refl
scope_stays one_sided (Some (line.Store t)) s = at (stored_by s.scope t s.files.now s.world.memory)
  where
    at : (o : Option Memory) → IsOfScope s.scope (stored_in o s)
    at None = tt
    at (Some memory) = refl
scope_stays one_sided (Some (line.Call c)) s = tt

line_stands : (w : Beside) (ps : Pairing) (known : Assertion) (a b : Run) → Stand w ps known a b
    → (l : Line) → line_fault w.scope.types known l ≡ None → IsDefinedAt w.source l.source
    → StandAfter w (after_line w.scope.types known l) (side_led (is_none l.target) l.source (side w.scope a)) (side_led (is_none l.source) l.target (side w.scope b))
line_stands w ps known a b stand l allowed defined =
    let source = side w.scope a in
    let target = side w.scope b in
    stand_after w ps (after_line w.scope.types known l) source target (side_led (is_none l.target) l.source source) (side_led (is_none l.source) l.target target)
    (line_enters w.source (is_none l.target) source stand.now_defined stand.old_defined l.source (slot_pointer w.scope.types known l.source l.target allowed) defined) (scope_stays (is_none l.source) l.target target)
    (keeps_so ps known source target stand.sides stand.holds l.source l.target allowed)

-- of aligned lines the first is defined, and so are the others
pub first_defined : (f : Function) (i : Option Instr) (left : List Instr) → AreLinesDefined f (with_line i left) → IsDefinedAt f i × AreLinesDefined f left
first_defined f None left h = (tt, h)
first_defined f (Some i) left h = (h.0, h.1)

-- ---- moves

-- the step of a tree that shows nothing, to a state
abbrev pub quiet : State → Made
quiet s = record { told = []; items = []; after = s }

abbrev pub at_wrong : Made
at_wrong = record { told = []; items = Wrong ∷ []; after = Over }

module _ (m : Module) (scope : Scope) (is : scope_of m ≡ scope) (f : Function) (b : Block) (i : Instr) (left : List Instr) (a : Run) where
  step_on_line : (after : SideState) → LeadsTo (side scope a) i after → asks m (running f b a (i ∷ left)) ≡ Does [] (running f b (run_of after) left)
  step_on_line after leads = leads m (frame_of f b a left) [] is

  wrong_on_line : LeadsWrong (side scope a) i → asks m (running f b a (i ∷ left)) ≡ wrong
  wrong_on_line leads = leads m (frame_of f b a left) [] is

may_make : (m : Module) (s after : State) → asks m s ≡ Does [] after → Follows (asks m s) (quiet after)
may_make m s after e = subst (λ tree. Follows tree (quiet after)) (sym e) refl

only_makes : (m : Module) (s after : State) → asks m s ≡ Does [] after → (made : Made) → Follows (asks m s) made → made ≡ quiet after
only_makes m s after e made f = subst (λ tree. Follows tree made) e f

module _ (first second : Module) (w : Beside) (of_first : scope_of first ≡ w.scope) (of_second : scope_of second ≡ w.scope)
    (sound : AreSound w.rules) (blocks : List Marked) (fine : IsPairFine w blocks) where
  abbrev pub R : ℕ → State → State → Type 0
  R = AreStatesRelated w.rules w.scope

  abbrev pub reached : Name → Bool
  reached to = mark_of to blocks

  -- a source whose tree is undefined behaviour
  pub goes_wrong : (s : State) → asks first s ≡ wrong → (made : Made) → GoesWrong first second R s made
  goes_wrong s is made = (1, [], made.items, refl, inr (at_wrong, [], subst (λ t. Follows t at_wrong) (sym is) refl, refl, refl))

  module _ (b : AlignedBlock) (names : b.target.name ≡ b.source.name) (onward : LeadsOn w reached b.source) where
    abbrev source_at : List Instr → Run → State
    source_at ls r = running w.source b.source r ls

    abbrev target_at : List Instr → Run → State
    target_at ls r = running w.target b.target r ls

    pub related : (n : ℕ) (ls : List Line) (known : Assertion) (ps : Pairing) (a c : Run) → Stand w ps known a c → IsGood (lines_judged w b n ls known)
        → AreLinesDefined w.source (source_lines ls) → R (own_lines ls) (source_at (source_lines ls) a) (target_at (target_lines ls) c)
    related n ls known ps a c stand good defined = inl (record {
      source = w.source;
      target = w.target;
      hint = w.hint;
      blocks = blocks;
      pair_fine = fine;
      block = b;
      place = n;
      left = ls;
      known = known;
      pairs = ps;
      source_run = a;
      target_run = c;
      stand = stand;
      good = good;
      names = names;
      onward = onward;
      defined = defined;
      is_k = refl;
      is_s = refl;
      is_t = refl;
    })

    abbrev MoveSo : ℕ → List Instr → Run → List Instr → Run → Type 0
    MoveSo k xs a ys c = Moves first second R k (source_at xs a) (target_at ys c)

    module _ (n : ℕ) (ls : List Line) (known : Assertion) (a c : Run) (good : IsGood (lines_judged w b n ls known)) (defined : AreLinesDefined w.source (source_lines ls)) where
      abbrev After : Option SideState → Option SideState → Type 0
      After o p = StandAfter w known o p

      source_moves : (i : Instr) (o : Option SideState) → LineLeads (side w.scope a) (Some i) o → After o (Some (side w.scope c))
          → MoveSo (suc (own_lines ls)) (i ∷ source_lines ls) a (target_lines ls) c
      source_moves i None leads stand =
          inr (λ made follows. inr (inr (goes_wrong (source_at (i ∷ source_lines ls) a) (wrong_on_line first w.scope of_first w.source b.source i (source_lines ls) a leads) made)))
      source_moves i (Some after) leads stand =
          let from = source_at (i ∷ source_lines ls) a in
          let to = source_at (source_lines ls) (run_of after) in
          inl (
            quiet to,
            may_make first from to (step_on_line first w.scope of_first w.source b.source i (source_lines ls) a after leads),
            refl,
            related n ls known stand.0 (run_of after) c stand.1 good defined,
          )

      target_moves : (j : Instr) (p : Option SideState) → LineLeads (side w.scope c) (Some j) p → After (Some (side w.scope a)) p
          → MoveSo 0 (source_lines ls) a (j ∷ target_lines ls) c
      target_moves j None leads stand = absurd stand
      target_moves j (Some after) leads stand =
          let at = source_at (source_lines ls) a in
          let from = target_at (j ∷ target_lines ls) c in
          let to = target_at (target_lines ls) (run_of after) in
          let step = step_on_line second w.scope of_second w.target b.target j (target_lines ls) c after leads in
          inr (λ made follows.
          inl (subst (Stays first second R at) (sym (only_makes second from to step made follows)) (
            own_lines ls,
            refl,
            related n ls known stand.0 a (run_of after) stand.1 good defined,
          )))

      both_move : (i j : Instr) (o p : Option SideState) → LineLeads (side w.scope a) (Some i) o → LineLeads (side w.scope c) (Some j) p → After o p
          → MoveSo 0 (i ∷ source_lines ls) a (j ∷ target_lines ls) c
      both_move i j None p leads leads' stand =
          inr (λ made follows. inr (inr (goes_wrong (source_at (i ∷ source_lines ls) a) (wrong_on_line first w.scope of_first w.source b.source i (source_lines ls) a leads) made)))
      both_move i j (Some after) None leads leads' stand = absurd stand
      both_move i j (Some after) (Some after') leads leads' stand =
          let at = source_at (i ∷ source_lines ls) a in
          let to = source_at (source_lines ls) (run_of after) in
          let from = target_at (j ∷ target_lines ls) c in
          let to' = target_at (target_lines ls) (run_of after') in
          let step = step_on_line first w.scope of_first w.source b.source i (source_lines ls) a after leads in
          let step' = step_on_line second w.scope of_second w.target b.target j (target_lines ls) c after' leads' in
          inr (λ made follows.
          inr (inl (subst (Matches first second R at) (sym (only_makes second from to' step' made follows)) (
            own_lines ls,
            quiet to,
            may_make first at to step,
            refl,
            related n ls known stand.0 (run_of after) (run_of after') stand.1 good defined,
          ))))

      line_moves : (i j : Option Instr) (o p : Option SideState) → LineLeads (side w.scope a) i o → LineLeads (side w.scope c) j p → After o p
          → ((ps : Pairing) → Stand w ps known a c → MoveSo (own_lines ls) (source_lines ls) a (target_lines ls) c)
          → MoveSo (own_before i j (own_lines ls)) (with_line i (source_lines ls)) a (with_line j (target_lines ls)) c
      line_moves None None o p leads leads' stand on = (let here = subst₂ After leads leads' stand in on here.0 here.1)
      line_moves (Some i) None o p leads leads' stand on = source_moves i o leads (subst (After o) leads' stand)
      line_moves None (Some j) o p leads leads' stand on = target_moves j p leads' (subst (λ q. After q p) leads stand)
      line_moves (Some i) (Some j) o p leads leads' stand on = both_move i j o p leads leads' stand

    -- where the terminators move, so do the lines before them
    module _ (ends_move : (n : ℕ) (known : Assertion) (ps : Pairing) (a c : Run) → Stand w ps known a c → IsGood (lines_judged w b n [] known) → MoveSo 0 [] a [] c) where
      pub blocks_move : (ls : List Line) (n : ℕ) (known : Assertion) (ps : Pairing) (a c : Run) → Stand w ps known a c → IsGood (lines_judged w b n ls known)
          → AreLinesDefined w.source (source_lines ls) → MoveSo (own_lines ls) (source_lines ls) a (target_lines ls) c
      blocks_move [] n known ps a c stand good defined = ends_move n known ps a c stand good
      blocks_move (l ∷ ls) n known ps a c stand good defined =
          let at = line_good w b n l ls known good in
          let lead = steps_lead w sound ps (steps_at n (hint_of_block w b).steps) a c known at.after stand at.steps in
          let a' = with_ghost a lead.0 in
          let c' = with_ghost c lead.1 in
          let parts = first_defined w.source l.source (source_lines ls) defined in
          let source = side w.scope a' in
          let target = side w.scope c' in
          line_moves (n + 1) ls (after_line w.scope.types at.after l) a' c' at.rest parts.1 l.source l.target
          (side_led (is_none l.target) l.source source) (side_led (is_none l.source) l.target target)
          (leads_so (is_none l.target) l.source source (source_may w.scope.types at.after l.source l.target at.allowed))
          (leads_so (is_none l.source) l.target target (target_may w.scope.types at.after l.source l.target at.allowed))
          (line_stands w ps at.after a' c' lead.2 l at.allowed parts.0)
          (λ qs stand'. blocks_move ls (n + 1) (after_line w.scope.types at.after l) qs a' c' stand' at.rest parts.1)
