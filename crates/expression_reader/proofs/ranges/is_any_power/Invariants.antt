use Rattle.std.proofs.Common.{◌≡◌}
use Rattle.expression_reader.specs.Powers.{is_power_below}
use Rattle.expression_reader.proofs.ranges.is_any_power.Given as goal

abbrev pub invariant-loop-exponent : goal.invariant-loop-exponent
invariant-loop-exponent l = l.found ≡ is_power_below l.exponent l.magnitude
