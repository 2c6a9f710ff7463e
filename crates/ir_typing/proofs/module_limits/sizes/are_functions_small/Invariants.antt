use Rattle.std.proofs.Common.{◌≡◌, drop}
use Rattle.std.specs.List.{flat_map}
use Rattle.ir_core.specs.Sizes.{wanted_in_function}
use Rattle.ir_typing.specs.ModuleLimits.Small.{are_small}
use Rattle.ir_typing.proofs.module_limits.sizes.are_functions_small.Given as goal

abbrev pub invariant-loop-function : goal.invariant-loop-function
invariant-loop-function l = are_small l.«module».types (flat_map (wanted_in_function l.«module».types) (drop l.function-index l.functions)) ≡ are_small l.«module».types (flat_map (wanted_in_function l.«module».types) l.functions)
