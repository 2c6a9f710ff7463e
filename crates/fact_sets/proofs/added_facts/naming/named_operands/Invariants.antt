use Rattle.std.proofs.Common.{◌≡◌, ◌++◌, drop, map}
use Rattle.ir_core.specs.Expressions.{map_operand}
use Rattle.fact_sets.proofs.added_facts.naming.named_operands.Given as goal

abbrev pub invariant-loop-operand : goal.invariant-loop-operand
invariant-loop-operand g l = l.named ++ map (map_operand g.R.Named.named) (drop l.operand-index l.operands) ≡ map (map_operand g.R.Named.named) l.operands
