-- Laws that hold the steps of terminators to what they mean.
use Rattle.std.specs.Prelude.{◌≡◌, ℕ, List, [], ◌∷◌, Some}
use Rattle.ir_core.specs.declared.functions.Term.{Term}
use Rattle.ir_core.specs.declared.functions.Term.TheVariants.{Br, Unreachable}
use Rattle.ir_types.specs.declared.names.Name.{Name}
use Rattle.ir_types.specs.declared.names.Name.TheVariants.{Number}
use Rattle.ir_core.specs.declared.values.Kind.TheVariants.{Int}
use Rattle.ir_core.specs.declared.values.Value.TheVariants.{Num, Poison}
use Rattle.ir_values.specs.Constants.{Scope}
use Rattle.block_memory.specs.declared.items.Choice.TheVariants.{Go, Pick}
use Rattle.ir_machine.specs.Starting.{given}
use Rattle.ir_machine.specs.declared.items.Item.TheVariants.{Turn, Returned, Wrong}
use Rattle.block_memory.specs.declared.items.Shown.TheVariants as shown
use Rattle.ir_machine.specs.Choices.{Lacks, answer}
use Rattle.ir_machine.specs.Examples.{number, undef}
use Rattle.ir_machine.specs.FlowExamples.{alone, branching, ending, entry, passing, phi, swapping, swapping_block, switching}
use Rattle.ir_machine.specs.Laws.{AreShownAtOnce}
use Rattle.ir_machine.specs.Machine.{Does, asks, at_block, jump, phi_value, term_step}
use Rattle.ir_machine.specs.Refinement.{Shows}
use Rattle.ir_machine.specs.Registers.{Registers, read}
use Rattle.ir_machine.specs.State.{Frame, Pending, World, Running}

-- a jump shows its turn, and what a phi gives is there behind it
abbrev pub JumpsAreTurns : Type 0
JumpsAreTurns = Shows passing (Number 0) (given []) 2 (Turn ∷ Turn ∷ Returned (Some (shown.Num 7)) ∷ [])

-- On the edge back each of the two phis holds what the other held.
abbrev pub PhisAreTakenAtOnce : Type 0
PhisAreTakenAtOnce = (old : Registers) (own : List ℕ) (rest : List Pending) (world : World) → (after : Registers)
    × (asks (alone swapping) (Running (at_block swapping swapping_block old own) rest world)
    ≡ Does (Turn ∷ []) (Running (at_block swapping swapping_block after own) rest world))
    × (read after (Int 32) (Number 3) ≡ read old (Int 32) (Number 4))
    × (read after (Int 32) (Number 4) ≡ read old (Int 32) (Number 3))

-- of several entries for one block the first is taken
abbrev pub FirstEntriesAreTaken : Type 0
FirstEntriesAreTaken = (scope : Scope) (old : Registers)
    → phi_value scope old (Number 1) (phi 3 (entry (number 5) 2 ∷ entry (number 7) 1 ∷ entry (number 8) 1 ∷ [])) ≡ Num 7

-- without an entry for the block a phi is poison
abbrev pub PhisWithoutEntriesArePoison : Type 0
PhisWithoutEntriesArePoison = (scope : Scope) (old : Registers) → phi_value scope old (Number 1) (phi 3 (entry (number 7) 2 ∷ [])) ≡ Poison

-- The terminator goes to the block of that name.
abbrev pub Goes : Term → Name → Type 0
Goes t to = (scope : Scope) (frame : Frame) (rest : List Pending) (world : World) → term_step scope t frame rest world ≡ jump scope frame rest world to

-- told that label, it goes there
abbrev pub MayGo : Term → Name → Type 0
MayGo t to = (scope : Scope) (frame : Frame) (rest : List Pending) (world : World)
    → answer (term_step scope t frame rest world) (Go to ∷ []) ≡ answer (jump scope frame rest world to) []

-- told that label, it lacks a choice
abbrev pub MayNotGo : Term → Name → Type 0
MayNotGo t to = (scope : Scope) (frame : Frame) (rest : List Pending) (world : World) → answer (term_step scope t frame rest world) (Go to ∷ []) ≡ Lacks []

pub record BranchesGo : Type 0 where
  pub on_true : Goes (branching (number 1)) (Number 1)
  pub on_false : Goes (branching (number 0)) (Number 2)
  pub undef_true : MayGo (branching undef) (Number 1)
  pub undef_false : MayGo (branching undef) (Number 2)
  pub undef_other : MayNotGo (branching undef) (Number 3)
  pub undef_picked : (scope : Scope) (frame : Frame) (rest : List Pending) (world : World)
      → answer (term_step scope (branching undef) frame rest world) (Pick (shown.Num 1) ∷ []) ≡ Lacks []

-- The first case of the number is taken, modulo 2 to the width, and the default where there is none; undef goes to any of them.
pub record SwitchesGo : Type 0 where
  pub default_too : Goes (switching (number 1)) (Number 1)
  pub first : Goes (switching (number 2)) (Number 2)
  pub modulo : Goes (switching (number 3)) (Number 3)
  pub default : Goes (switching (number 4)) (Number 1)
  pub undef_default : MayGo (switching undef) (Number 1)
  pub undef_case : MayGo (switching undef) (Number 3)
  pub undef_other : MayNotGo (switching undef) (Number 4)

-- undefined behaviour, and no turn: `unreachable`, a branch on poison, and a jump to no block
pub record EndsAreWrong : Type 0 where
  pub unreachable : AreShownAtOnce (ending [] Unreachable) (Number 0) (Wrong ∷ [])
  pub poison : AreShownAtOnce (ending [] (branching (number 2))) (Number 0) (Wrong ∷ [])
  pub poison_switch : AreShownAtOnce (ending [] (switching (number 256))) (Number 0) (Wrong ∷ [])
  pub no_block : AreShownAtOnce (ending [] (Br (Number 2))) (Number 0) (Wrong ∷ [])
