use Rattle.std.proofs.Common.{◌≡◌, drop}
use Rattle.fact_sets.specs.Names.{IsKept, with_operands}
use Rattle.fact_sets.proofs.naming.add_operands.Given as goal

abbrev pub invariant-loop-operand : goal.invariant-loop-operand
invariant-loop-operand l = record {
  named : with_operands (drop l.operand-index l.operands) l.names.keys ≡ with_operands l.operands l.initial.names.keys;
  kept : IsKept l.initial.names.keys l.names.keys;
}
