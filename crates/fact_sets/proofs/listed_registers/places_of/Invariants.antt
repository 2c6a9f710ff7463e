use Rattle.std.proofs.Common.{◌≡◌, ◌≤◌, length}
use Rattle.ir_core.specs.declared.expressions.Reg.{Reg}
use Rattle.fact_sets.specs.Places.{place_in_kind}
use Rattle.fact_sets.proofs.Placing.{place_behind}
use Rattle.fact_sets.proofs.listed_registers.places_of.Given as goal

-- the registers from that place on are put
abbrev pub invariant-loop-at : goal.invariant-loop-at
invariant-loop-at l = (l.at ≤ length l.registers) × ((r : Reg) → place_in_kind l.places r ≡ place_behind r l.at l.registers)

abbrev pub decreases-loop-at : goal.decreases-loop-at
decreases-loop-at l = l.at
