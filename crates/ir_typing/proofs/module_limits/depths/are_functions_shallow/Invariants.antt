use Rattle.std.proofs.Common.{◌≡◌, drop}
use Rattle.std.specs.List.{flat_map}
use Rattle.ir_core.specs.Depths.{depths_in_function}
use Rattle.ir_typing.specs.ModuleLimits.Within.{are_shallow}
use Rattle.ir_typing.proofs.module_limits.depths.are_functions_shallow.Given as goal

abbrev pub invariant-loop-function : goal.invariant-loop-function
invariant-loop-function l = are_shallow (flat_map depths_in_function (drop l.function-index l.functions)) ≡ are_shallow (flat_map depths_in_function l.functions)
