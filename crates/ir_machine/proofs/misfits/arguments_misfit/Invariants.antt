use Rattle.std.proofs.Common.{◌≡◌, drop}
use Rattle.ir_machine.specs.Starting.{arguments_misfit}
use Rattle.ir_machine.proofs.misfits.arguments_misfit.Given as goal

abbrev pub invariant-loop-at : goal.invariant-loop-at
invariant-loop-at l = arguments_misfit l.names l.at (drop l.at l.params) (drop l.at l.args) ≡ arguments_misfit l.names 0 l.params l.args
