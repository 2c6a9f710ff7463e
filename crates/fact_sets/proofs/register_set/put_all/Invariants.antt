use Rattle.std.proofs.Common.{◌≡◌, ◌++◌, take}
use Rattle.fact_sets.proofs.register_set.put_all.Given as goal

abbrev pub invariant-loop-register : goal.invariant-loop-register
invariant-loop-register l = l.all ≡ l.initial.all ++ take l.register-index l.registers
