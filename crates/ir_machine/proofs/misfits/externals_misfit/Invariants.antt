use Rattle.std.proofs.Common.{◌≡◌, drop}
use Rattle.ir_machine.specs.State.{scope_of}
use Rattle.ir_machine.specs.Starting.{external_misfit, first_of}
use Rattle.ir_machine.proofs.misfits.externals_misfit.Given as goal

abbrev pub invariant-loop-at : goal.invariant-loop-at
invariant-loop-at l =
    let one = external_misfit (scope_of l.«module») l.names in first_of one l.at (drop l.at l.externals) ≡ first_of one 0 l.externals
