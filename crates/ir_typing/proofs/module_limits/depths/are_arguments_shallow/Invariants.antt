use Rattle.std.proofs.Common.{◌≡◌, drop, map}
use Rattle.ir_core.specs.declared.functions.Argument.{Argument}
use Rattle.ir_core.specs.Depths.{depth_of_operand}
use Rattle.ir_typing.specs.ModuleLimits.Within.{are_shallow}
use Rattle.ir_typing.proofs.module_limits.depths.are_arguments_shallow.Given as goal

abbrev pub invariant-loop-argument : goal.invariant-loop-argument
invariant-loop-argument l = are_shallow (map (λ (a : Argument). depth_of_operand a.operand) (drop l.argument-index l.arguments)) ≡ are_shallow (map (λ (a : Argument). depth_of_operand a.operand) l.arguments)
