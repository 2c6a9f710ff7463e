use Rattle.std.proofs.Common.{◌≡◌, map, take}
use Rattle.erhl_assert.specs.Edges.{old_of}
use Rattle.fact_sets.proofs.register_set.all_old.Given as goal

abbrev pub invariant-loop-register : goal.invariant-loop-register
invariant-loop-register l = l.old ≡ map old_of (take l.register-index l.registers)
