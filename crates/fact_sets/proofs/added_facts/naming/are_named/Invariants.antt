use Rattle.std.proofs.Common.{◌≡◌, drop, map}
use Rattle.std.specs.List.{list_any}
use Rattle.ir_core.specs.declared.expressions.Reg.{Reg}
use Rattle.ir_core.specs.declared.expressions.Reg.TheVariants.{Now}
use Rattle.ir_core.specs.declared.operands.Operand.{Operand}
use Rattle.ir_core.specs.Expressions.{atom_has, map_operand}
use Rattle.ir_core.specs.Same.{same_reg}
use Rattle.fact_sets.proofs.added_facts.naming.are_named.Given as goal

abbrev pub invariant-loop-operand : goal.invariant-loop-operand
invariant-loop-operand l =
    list_any (λ (o : Operand Reg). atom_has (same_reg (Now l.name)) o.atom) (map (map_operand Now) (drop l.operand-index l.operands))
    ≡ list_any (λ (o : Operand Reg). atom_has (same_reg (Now l.name)) o.atom) (map (map_operand Now) l.operands)
