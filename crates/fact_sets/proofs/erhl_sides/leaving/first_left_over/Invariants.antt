use Rattle.std.proofs.Common.{◌≡◌, ◌-◌, length, drop}
use Rattle.std.specs.Option.{option_map}
use Rattle.erhl_assert.specs.Acceptance.{first_printed, left_over}
use Rattle.fact_sets.proofs.erhl_sides.leaving.first_left_over.Given as goal

abbrev pub invariant-loop-done : goal.invariant-loop-done
invariant-loop-done l = option_map (λ p. p.register.now) l.first ≡ first_printed (left_over l.wanted (drop (length l.registers - l.done) l.registers))
