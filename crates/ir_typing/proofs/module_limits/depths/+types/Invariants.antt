use Rattle.std.proofs.Common.{◌≡◌, drop}
use Rattle.std.specs.List.{list_all}
use Rattle.ir_typing.specs.ModuleLimits.Within.{type_within}
use Rattle.ir_typing.proofs.module_limits.depths.+types.Given as goal

abbrev pub invariant-are_types_within-loop-ty : goal.invariant-are_types_within-loop-ty
invariant-are_types_within-loop-ty l = list_all (type_within l.budget) (drop l.ty-index l.types) ≡ list_all (type_within l.budget) l.types
