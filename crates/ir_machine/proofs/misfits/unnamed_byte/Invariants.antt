use Rattle.std.proofs.Common.{◌≡◌, ℕ, drop}
use Rattle.ir_machine.specs.declared.inputs.InputPath.{InputPath}
use Rattle.ir_machine.specs.Starting.{bytes_misfit, first_of, is_named_byte, unless}
use Rattle.ir_machine.proofs.misfits.unnamed_byte.Given as goal

abbrev pub invariant-loop-at : goal.invariant-loop-at
invariant-loop-at l = (place : ℕ → InputPath) → first_of (λ j b. unless (is_named_byte l.names b) (place j)) l.at (drop l.at l.bytes) ≡ bytes_misfit l.names place l.bytes
