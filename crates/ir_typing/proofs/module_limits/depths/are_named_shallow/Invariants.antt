use Rattle.std.proofs.Common.{◌≡◌, drop}
use Rattle.std.specs.List.{flat_map}
use Rattle.ir_core.specs.Depths.{depths_in_named}
use Rattle.ir_typing.specs.ModuleLimits.Within.{are_shallow}
use Rattle.ir_typing.proofs.module_limits.depths.are_named_shallow.Given as goal

abbrev pub invariant-loop-named : goal.invariant-loop-named
invariant-loop-named l = are_shallow (flat_map depths_in_named (drop l.named-index l.types)) ≡ are_shallow (flat_map depths_in_named l.types)
