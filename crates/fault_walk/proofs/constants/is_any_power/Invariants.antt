use Rattle.std.proofs.Common.{◌≡◌}
use Rattle.fault_walk.specs.Parts.{is_power_below}
use Rattle.fault_walk.proofs.constants.is_any_power.Given as goal

abbrev pub invariant-loop-exponent : goal.invariant-loop-exponent
invariant-loop-exponent l = l.found ≡ is_power_below l.exponent l.magnitude
