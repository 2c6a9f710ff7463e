use Rattle.std.proofs.Common.{◌≡◌, drop}
use Rattle.fact_sets.specs.ErhlSides.Differing.{differing_operands}
use Rattle.fact_sets.proofs.erhl_sides.sides.Sides.differing_in_operands.Given as goal

-- none of the operands so far has one
abbrev pub invariant-loop-operand : goal.invariant-loop-operand
invariant-loop-operand g l = differing_operands l.self.diff (drop l.operand-index l.operands) ≡ differing_operands l.self.diff l.operands
