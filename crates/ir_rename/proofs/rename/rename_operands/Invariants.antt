use Rattle.std.proofs.Common.{◌≡◌, ◌++◌, drop, map}
use Rattle.ir_rename.specs.Lent.{renamed}
use Rattle.ir_core.specs.Expressions.{map_operand}
use Rattle.ir_rename.proofs.rename.rename_operands.Given as goal

abbrev pub invariant-loop-operand : goal.invariant-loop-operand
invariant-loop-operand l = l.renamed.items ++ map (map_operand (renamed l.names)) (drop l.operand-index l.operands) ≡ map (map_operand (renamed l.names)) l.operands
