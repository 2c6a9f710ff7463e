use Rattle.std.proofs.Common.{drop}
use Rattle.std.specs.List.{AllByRecursion}
use Rattle.ir_typing.specs.ModuleLimits.Small.{IsClear}
use Rattle.ir_typing.proofs.module_limits.judged.+clear.Given as goal

abbrev pub invariant-are_clear-loop-ty : goal.invariant-are_clear-loop-ty
invariant-are_clear-loop-ty l = AllByRecursion (IsClear l.«module».types) (drop l.ty-index l.types) → AllByRecursion (IsClear l.«module».types) l.types
