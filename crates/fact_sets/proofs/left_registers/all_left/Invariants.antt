use Rattle.std.proofs.Common.{◌≡◌, ◌++◌, drop, filter}
use Rattle.fact_sets.specs.Places.{is_left}
use Rattle.fact_sets.proofs.left_registers.all_left.Given as goal

abbrev pub invariant-loop-register : goal.invariant-loop-register
invariant-loop-register l = l.all ++ filter (is_left l.list l.gone) (drop l.register-index l.list) ≡ filter (is_left l.list l.gone) l.list
