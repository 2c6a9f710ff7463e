use Rattle.std.proofs.Common.{◌≡◌, drop, map}
use Rattle.ir_core.specs.declared.functions.Argument.{Argument}
use Rattle.ir_core.specs.Sizes.{wanted_by_operands}
use Rattle.ir_typing.specs.ModuleLimits.Small.{are_small}
use Rattle.ir_typing.proofs.module_limits.sizes.are_arguments_small.Given as goal

abbrev pub invariant-loop-argument : goal.invariant-loop-argument
invariant-loop-argument l = are_small l.«module».types (wanted_by_operands l.«module».types (map (λ (a : Argument). a.operand) (drop l.argument-index l.arguments))) ≡ are_small l.«module».types (wanted_by_operands l.«module».types (map (λ (a : Argument). a.operand) l.arguments))
