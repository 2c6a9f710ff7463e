use Rattle.std.proofs.Common.{◌≡◌, drop}
use Rattle.ir_core.specs.Sizes.{wanted_by_operands}
use Rattle.ir_typing.specs.ModuleLimits.Small.{are_small}
use Rattle.ir_typing.proofs.module_limits.sizes.are_operands_small.Given as goal

abbrev pub invariant-loop-operand : goal.invariant-loop-operand
invariant-loop-operand l = are_small l.«module».types (wanted_by_operands l.«module».types (drop l.operand-index l.operands)) ≡ are_small l.«module».types (wanted_by_operands l.«module».types l.operands)
