use Rattle.std.proofs.Common.{◌≡◌, drop, map}
use Rattle.ir_core.specs.Depths.{depth_of_operand}
use Rattle.ir_typing.specs.ModuleLimits.Within.{are_shallow}
use Rattle.ir_typing.proofs.module_limits.depths.are_operands_shallow.Given as goal

abbrev pub invariant-loop-operand : goal.invariant-loop-operand
invariant-loop-operand l =
    are_shallow (map (λ o. depth_of_operand o) (drop l.operand-index l.operands)) ≡ are_shallow (map (λ o. depth_of_operand o) l.operands)
