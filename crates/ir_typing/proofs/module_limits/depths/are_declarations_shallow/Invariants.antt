use Rattle.std.proofs.Common.{◌≡◌, drop}
use Rattle.std.specs.List.{flat_map}
use Rattle.ir_core.specs.Depths.{depths_in_declaration}
use Rattle.ir_typing.specs.ModuleLimits.Within.{are_shallow}
use Rattle.ir_typing.proofs.module_limits.depths.are_declarations_shallow.Given as goal

abbrev pub invariant-loop-declaration : goal.invariant-loop-declaration
invariant-loop-declaration l = are_shallow (flat_map depths_in_declaration (drop l.declaration-index l.declarations)) ≡ are_shallow (flat_map depths_in_declaration l.declarations)
