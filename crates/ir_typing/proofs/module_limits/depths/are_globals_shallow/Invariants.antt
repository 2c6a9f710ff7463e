use Rattle.std.proofs.Common.{◌≡◌, drop}
use Rattle.std.specs.List.{flat_map}
use Rattle.ir_core.specs.Depths.{depths_in_global}
use Rattle.ir_typing.specs.ModuleLimits.Within.{are_shallow}
use Rattle.ir_typing.proofs.module_limits.depths.are_globals_shallow.Given as goal

abbrev pub invariant-loop-global : goal.invariant-loop-global
invariant-loop-global l = are_shallow (flat_map depths_in_global (drop l.global-index l.globals)) ≡ are_shallow (flat_map depths_in_global l.globals)
