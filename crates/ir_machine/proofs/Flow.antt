-- The examples of terminators.
use Rattle.std.proofs.Common.{[], ◌∷◌, Some, refl, inr}
use Rattle.ir_core.specs.declared.functions.Term.{Term}
use Rattle.ir_core.specs.declared.functions.Term.TheVariants.{Br, Unreachable}
use Rattle.ir_types.specs.declared.names.Name.TheVariants.{Number}
use Rattle.ir_types.specs.declared.ty.Ty.TheVariants.{Void}
use Rattle.ir_values.proofs.ConstantWalks.{of_number, of_undef, worth_number, worth_undef}
use Rattle.ir_machine.specs.declared.items.Item.TheVariants.{Turn, Returned, Wrong}
use Rattle.block_memory.specs.declared.items.Shown.TheVariants as shown
use Rattle.ir_machine.specs.Examples.{number}
use Rattle.ir_machine.specs.FlowExamples.{block, branching, ending, function, switching}
use Rattle.ir_machine.specs.FlowLaws.{BranchesGo, EndsAreWrong, FirstEntriesAreTaken, JumpsAreTurns, PhisAreTakenAtOnce, PhisWithoutEntriesArePoison, SwitchesGo}
use Rattle.ir_machine.specs.Machine.{at_block}
use Rattle.ir_machine.specs.Registers.{no_registers}
use Rattle.ir_machine.specs.State.{no_world, State, Over, Running}
use Rattle.ir_machine.proofs.AtOnce.{at_once}

pub jumps_are_turns : JumpsAreTurns
jumps_are_turns =
    inr (
      record { told = []; items = Turn ∷ []; after = _ },
      Turn ∷ Returned (Some (shown.Num 7)) ∷ [],
      refl,
      refl,
      inr (record { told = []; items = Turn ∷ Returned (Some (shown.Num 7)) ∷ []; after = Over }, [], simp (of_number, worth_number) refl, refl, refl),
    )

pub phis_are_taken_at_once : PhisAreTakenAtOnce
phis_are_taken_at_once old own rest world = (_, refl, refl, refl)

pub first_entries_are_taken : FirstEntriesAreTaken
first_entries_are_taken scope old = simp (of_number, worth_number) refl

pub phis_without_entries_are_poison : PhisWithoutEntriesArePoison
phis_without_entries_are_poison scope old = refl

pub branches_go : BranchesGo
branches_go = record {
  on_true = λ scope frame rest world. simp (of_number, worth_number) refl;
  on_false = λ scope frame rest world. simp (of_number, worth_number) refl;
  undef_true = λ scope frame rest world. simp (of_undef, worth_undef) refl;
  undef_false = λ scope frame rest world. simp (of_undef, worth_undef) refl;
  undef_other = λ scope frame rest world. simp (of_undef, worth_undef) refl;
  undef_picked = λ scope frame rest world. simp (of_undef, worth_undef) refl;
}

pub switches_go : SwitchesGo
switches_go = record {
  default_too = λ scope frame rest world. simp (of_number, worth_number) refl;
  first = λ scope frame rest world. simp (of_number, worth_number) refl;
  modulo = λ scope frame rest world. simp (of_number, worth_number) refl;
  default = λ scope frame rest world. simp (of_number, worth_number) refl;
  undef_default = λ scope frame rest world. simp (of_undef, worth_undef) refl;
  undef_case = λ scope frame rest world. simp (of_undef, worth_undef) refl;
  undef_other = λ scope frame rest world. simp (of_undef, worth_undef) refl;
}

-- where a run of the only block starts
abbrev starting : Term → State
starting term = Running (at_block (function Void (block 1 [] term ∷ [])) (block 1 [] term) no_registers []) [] no_world

pub ends_are_wrong : EndsAreWrong
ends_are_wrong = record {
  unreachable = at_once (ending [] Unreachable) (Number 0) (starting Unreachable) (Wrong ∷ []) refl refl;
  poison = at_once (ending [] (branching (number 2))) (Number 0) (starting (branching (number 2))) (Wrong ∷ []) refl (simp (of_number, worth_number) refl);
  poison_switch = at_once (ending [] (switching (number 256))) (Number 0) (starting (switching (number 256))) (Wrong ∷ []) refl (simp (of_number, worth_number) refl);
  no_block = at_once (ending [] (Br (Number 2))) (Number 0) (starting (Br (Number 2))) (Wrong ∷ []) refl refl;
}
