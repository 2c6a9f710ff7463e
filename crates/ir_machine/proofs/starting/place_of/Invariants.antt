use Rattle.std.proofs.Common.{◌≡◌, drop}
use Rattle.ir_machine.specs.Machine.{function_named}
use Rattle.ir_machine.proofs.starting.place_of.Given as goal

abbrev pub invariant-loop-i : goal.invariant-loop-i
invariant-loop-i l = function_named l.name (drop l.i l.functions) ≡ function_named l.name l.functions
