-- What the code does of a branch is what its tree answers.
use Rattle.std.proofs.Common.{◌≡◌, ◌⊎◌, inl, inr, ℕ, List, [], ◌∷◌, Option, None, Some, Result, Ok, Err, refl, sym, ap, ◌∙◌, subst}
use Rattle.std.specs.Prelude.{ℤ, IsErr, IsErrAnd}
use Rattle.ir_core.specs.declared.functions.Block.{Block}
use Rattle.ir_core.specs.declared.functions.CondBr.{CondBr as CondBrLine}
use Rattle.ir_core.specs.declared.functions.Switch.{Switch as SwitchLine}
use Rattle.ir_core.specs.declared.functions.Term.{Term}
use Rattle.ir_core.specs.declared.functions.Term.TheVariants.{CondBr, Switch}
use Rattle.ir_types.specs.declared.names.Name.{Name}
use Rattle.ir_core.specs.declared.values.Value.{Value}
use Rattle.ir_core.specs.declared.values.Value.TheVariants as value
use Rattle.ir_core.specs.Functions.{successors_of}
use Rattle.ir_values.specs.Constants.{Scope}
use Rattle.block_memory.specs.declared.items.Choice.{Choice}
use Rattle.ir_machine.specs.declared.items.Item.{Item}
use Rattle.ir_machine.specs.declared.items.Item.TheVariants.{Turn, Wrong}
use Rattle.ir_machine.specs.declared.machine.Progress.TheVariants as progress
use Rattle.ir_machine.specs.declared.machine.StepEnd.{StepEnd}
use Rattle.ir_machine.specs.declared.machine.StepEnd.TheVariants as end
use Rattle.ir_machine.specs.declared.machine.Stepped.{Stepped}
use Rattle.ir_machine.specs.Choices.{Did, Lacks, answer, TakesAsked}
use Rattle.ir_machine.specs.Machine.{Asks, Does, Ask, at_block, block_named, branch, case_of, entering, gone, is_label, jump, side_of, term_step, with_phis, wrong}
use Rattle.ir_machine.specs.Places.{progress_of}
use Rattle.ir_machine.specs.Registers.{operand_value, read}
use Rattle.ir_machine.specs.State.{Frame, Pending, World, State, Running, Over}
use Rattle.ir_machine.specs.Stepping.{Answers, JustDoes}
use Rattle.ir_machine.proofs.Telling.{did_takes_asked, lacks_takes_asked}

-- ---- trees that ask for nothing

abbrev pub IsDone : Asks → Type 0
IsDone tree = (items : List Item) × (after : State) × (tree ≡ Does items after)

done_takes : (tree : Asks) (script : List Choice) → IsDone tree → TakesAsked tree script script
done_takes tree script does = did_takes_asked tree script script does.0 does.1 (ap (λ (tree : Asks). answer tree script) does.2)

pub done_answers : {E : Type 0} (tree : Asks) (script : List Choice) (state : State) (stepped : Stepped) → JustDoes {E = E} tree state (Ok stepped)
    → Answers tree script script state (Ok stepped)
done_answers tree script state stepped h = record {
  made = ap (λ (tree : Asks). answer tree script) h.made;
  progress = h.progress;
  no_choice = λ e. cc;
  told = done_takes tree script (_, _, h.made);
}

pub fails_answers : (tree : Asks) (script : List Choice) (state : State) (r : Result Stepped StepEnd) → IsDone tree → r ≡ Err end.Memory → Answers tree script script state r
fails_answers tree script state r does fails = subst (λ (r : Result Stepped StepEnd). Answers tree script script state r) (sym fails) (record {
  made = tt;
  progress = tt;
  no_choice = λ e. absurd (cc);
  told = done_takes tree script does;
})

-- undefined behaviour is a step to the end, wherever the run was
pub wrong_does : {E : Type 0} (tree : Asks) (state : State) (stepped : Stepped) → tree ≡ wrong → stepped.items ≡ Wrong ∷ [] → stepped.progress ≡ progress.IsWrong
    → JustDoes {E = E} tree state (Ok stepped)
wrong_does tree state stepped is items goes = record { made = rw (is, items, goes) refl; progress = rw (items, goes) refl }

pub wrong_answers : (tree : Asks) (script : List Choice) (state : State) (stepped : Stepped) → tree ≡ wrong → stepped.items ≡ Wrong ∷ [] → stepped.progress ≡ progress.IsWrong
    → Answers tree script script state (Ok stepped)
wrong_answers tree script state stepped is items goes = done_answers {E = StepEnd} tree script state stepped (wrong_does {E = StepEnd} tree state stepped is items goes)

pub no_memory : (r : Result Stepped StepEnd) → IsErr r → IsErrAnd r (λ e. e ≡ end.Memory) → r ≡ Err end.Memory
no_memory (Ok x) h is = absurd (cc)
no_memory (Err e) h is = ap Err is

-- ---- a jump asks for nothing

entering_does : (scope : Scope) (frame : Frame) (rest : List Pending) (world : World) (o : Option Block) → IsDone (entering scope frame rest world o)
entering_does scope frame rest world (Some b) =
    (Turn ∷ [], Running (at_block frame.function b (with_phis scope frame.registers frame.block b.phis frame.registers) frame.own) rest world, refl)
entering_does scope frame rest world None = (Wrong ∷ [], Over, refl)

pub jump_does : (scope : Scope) (frame : Frame) (rest : List Pending) (world : World) (to : Name) → IsDone (jump scope frame rest world to)
jump_does scope frame rest world to = entering_does scope frame rest world (block_named to frame.function.blocks)

-- ---- a label is told, or none

module _ (labels : List Name) (next : Name → Asks) (before after : List Choice) where
  abbrev asking : Asks
  asking = Ask (is_label labels) (λ c. gone c next)

  told_takes : (x : Name) → IsDone (next x) → answer asking before ≡ answer (next x) after → TakesAsked asking before after
  told_takes x does told = did_takes_asked asking before after does.0 does.1 (told ∙ ap (λ (tree : Asks). answer tree after) does.2)

  pub told_made : {E : Type 0} (x : Name) (stepped : Stepped) (state : State) → answer asking before ≡ answer (next x) after → JustDoes {E = E} (next x) state (Ok stepped)
      → Answers asking before after state (Ok stepped)
  told_made x stepped state told h = record {
    made = told ∙ ap (λ (tree : Asks). answer tree after) h.made;
    progress = h.progress;
    no_choice = λ e. cc;
    told = told_takes x (_, _, h.made) told;
  }

  pub told_fails : (x : Name) (r : Result Stepped StepEnd) (state : State) → IsDone (next x) → answer asking before ≡ answer (next x) after → r ≡ Err end.Memory
      → Answers asking before after state r
  told_fails x r state does told fails = subst (λ (r : Result Stepped StepEnd). Answers asking before after state r) (sym fails) (record {
    made = tt;
    progress = tt;
    no_choice = λ e. absurd (cc);
    told = told_takes x does told;
  })

  pub untold_fails : (state : State) → answer asking before ≡ Lacks after → Answers asking before after state (Err end.NoChoice)
  untold_fails state lacks = record { made = tt; progress = tt; no_choice = λ e. lacks; told = lacks_takes_asked asking before after lacks }

-- ---- a branch on undef, or on an address, asks for a label

abbrev pub IsUndefined : Value → Type 0
IsUndefined v = (v ≡ value.Undef) ⊎ (((block : ℕ) × (offset : ℤ) × (v ≡ value.Ptr block offset)) ⊎ ((address : ℕ) × (v ≡ value.Bare address)))

pub branch_asks : (v : Value) (label : ℕ → Name) (labels : List Name) (next : Name → Asks) (before after : List Choice) (state : State) (r : Result Stepped StepEnd) → IsUndefined v
    → Answers (Ask (is_label labels) (λ c. gone c next)) before after state r → Answers (branch v label labels next) before after state r
branch_asks v label labels next before after state r (inl e) h = rw e h
branch_asks v label labels next before after state r (inr (inl (block, offset, e))) h = rw e h
branch_asks v label labels next before after state r (inr (inr (address, e))) h = rw e h

-- ---- the terminators

module _ (scope : Scope) (frame : Frame) (rest : List Pending) (world : World) (v : Value) (before after : List Choice) (state : State) (r : Result Stepped StepEnd) where
  pub condition_answers : (t : Term) (c : CondBrLine) → t ≡ CondBr c → v ≡ operand_value scope (read frame.registers) c.condition
      → Answers (branch v (side_of c.on_true c.on_false) (successors_of t) (jump scope frame rest world)) before after state r → Answers (term_step scope t frame rest world) before after state r
  condition_answers t c is worth h =
      subst (λ (t : Term). Answers (term_step scope t frame rest world) before after state r) (sym is)
      (subst (λ (v : Value). Answers (branch v (side_of c.on_true c.on_false) (successors_of (CondBr c)) (jump scope frame rest world)) before after state r) worth
      (subst (λ (t : Term). Answers (branch v (side_of c.on_true c.on_false) (successors_of t) (jump scope frame rest world)) before after state r) is h))

  pub switch_answers : (t : Term) (s : SwitchLine) → t ≡ Switch s → v ≡ operand_value scope (read frame.registers) s.value
      → Answers (branch v (case_of s.value.ty s.default s.cases) (successors_of t) (jump scope frame rest world)) before after state r → Answers (term_step scope t frame rest world) before after state r
  switch_answers t s is worth h =
      subst (λ (t : Term). Answers (term_step scope t frame rest world) before after state r) (sym is)
      (subst (λ (v : Value). Answers (branch v (case_of s.value.ty s.default s.cases) (successors_of (Switch s)) (jump scope frame rest world)) before after state r) worth
      (subst (λ (t : Term). Answers (branch v (case_of s.value.ty s.default s.cases) (successors_of t) (jump scope frame rest world)) before after state r) is h))

-- ---- steps that aren't made

pub lacks_answers : (tree : Asks) (before after : List Choice) (state : State) → answer tree before ≡ Lacks after → Answers tree before after state (Err end.NoChoice)
lacks_answers tree before after state lacks = record { made = tt; progress = tt; no_choice = λ e. lacks; told = lacks_takes_asked tree before after lacks }

pub refused_answers : (tree : Asks) (before after : List Choice) (state : State) (r : Result Stepped StepEnd) → TakesAsked tree before after → r ≡ Err end.Memory → Answers tree before after state r
refused_answers tree before after state r told fails = subst (λ (r : Result Stepped StepEnd). Answers tree before after state r) (sym fails) (record {
  made = tt;
  progress = tt;
  no_choice = λ e. absurd (cc);
  told = told;
})

-- ---- steps that are made after choices

pub goes_answers : (tree : Asks) (before after : List Choice) (state : State) (items : List Item) (stepped : Stepped) → answer tree before ≡ Did items state after → stepped.items ≡ items
    → stepped.progress ≡ progress.Goes → progress_of items state ≡ progress.Goes → Answers tree before after state (Ok stepped)
goes_answers tree before after state items stepped did shows goes is = record {
  made = rw (shows, goes) did;
  progress = rw (shows, goes) (sym is);
  no_choice = λ e. cc;
  told = did_takes_asked tree before after items state did;
}

pub wrongs_answers : (tree : Asks) (before after : List Choice) (state : State) (stepped : Stepped) → answer tree before ≡ answer wrong after → stepped.items ≡ Wrong ∷ []
    → stepped.progress ≡ progress.IsWrong → Answers tree before after state (Ok stepped)
wrongs_answers tree before after state stepped did shows goes = record {
  made = rw (shows, goes) did;
  progress = rw (shows, goes) refl;
  no_choice = λ e. cc;
  told = did_takes_asked tree before after (Wrong ∷ []) Over did;
}

-- ---- the terminator that it is

module _ (scope : Scope) (t u : Term) (frame : Frame) (rest : List Pending) (world : World) where
  pub term_is : (before after : List Choice) (state : State) (r : Result Stepped StepEnd) → t ≡ u → Answers (term_step scope u frame rest world) before after state r
      → Answers (term_step scope t frame rest world) before after state r
  term_is before after state r is h = subst (λ (t : Term). Answers (term_step scope t frame rest world) before after state r) (sym is) h

  pub term_made : {E : Type 0} (script : List Choice) (state : State) (stepped : Stepped) → t ≡ u → JustDoes {E = E} (term_step scope u frame rest world) state (Ok stepped)
      → Answers (term_step scope t frame rest world) script script state (Ok stepped)
  term_made {E} script state stepped is h = term_is script script state (Ok stepped) is (done_answers {E = E} (term_step scope u frame rest world) script state stepped h)

  pub term_fails : (script : List Choice) (state : State) (r : Result Stepped StepEnd) → t ≡ u → IsDone (term_step scope u frame rest world) → r ≡ Err end.Memory
      → Answers (term_step scope t frame rest world) script script state r
  term_fails script state r is does fails = term_is script script state r is (fails_answers (term_step scope u frame rest world) script state r does fails)
