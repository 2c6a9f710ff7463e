use Rattle.std.proofs.Common.{◌≡◌, ◌++◌, drop, filter, not}
use Rattle.erhl_assert.specs.Edges.{is_old}
use Rattle.fact_sets.proofs.register_set.all_young.Given as goal

abbrev pub invariant-loop-register : goal.invariant-loop-register
invariant-loop-register l = l.young ++ filter (λ r. not (is_old r)) (drop l.register-index l.registers) ≡ filter (λ r. not (is_old r)) l.registers
