-- The laws of what is kept: each start has it, and each step keeps it.
use Rattle.std.specs.Prelude.{◌≡◌, Some}
use Rattle.ir_types.specs.declared.names.Name.{Name}
use Rattle.ir_core.specs.declared.modules.Module.{Module}
use Rattle.ir_core.specs.WellFormed.{IsWellFormed}
use Rattle.ir_machine.specs.declared.inputs.Input.{Input}
use Rattle.ir_machine.specs.Keeps.{IsKept}
use Rattle.ir_machine.specs.Machine.{Follows, Made, asks}
use Rattle.ir_machine.specs.Starting.{start}
use Rattle.ir_machine.specs.State.{State, scope_of}

-- where a run of a well-formed module starts
abbrev pub StartsHaveIt : Type 0
StartsHaveIt = (m : Module) (f : Name) (input : Input) (s : State) → IsWellFormed m → start m f input ≡ Some s → IsKept (scope_of m) input s

-- whatever the module
abbrev pub StepsKeepIt : Type 0
StepsKeepIt = (m : Module) (input : Input) (s : State) (made : Made) → IsKept (scope_of m) input s → Follows (asks m s) made
    → IsKept (scope_of m) input made.after
