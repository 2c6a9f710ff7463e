use Rattle.std.proofs.Common.{◌≡◌, drop}
use Rattle.ir_machine.specs.Kept.{place_in}
use Rattle.ir_machine.proofs.Few.{past}
use Rattle.ir_machine.proofs.reading.place_in.Given as goal

abbrev pub invariant-loop-at : goal.invariant-loop-at
invariant-loop-at l = past l.at (place_in l.name (drop l.at l.few)) ≡ place_in l.name l.few
