use Rattle.std.proofs.Common.{take}
use Rattle.std.specs.List.{AllByRecursion}
use Rattle.ir_core.specs.WellFormed.{IsFunctionDefined}
use Rattle.ir_reader.proofs.shapely.all_defined.Given as goal

-- the functions up to here are defined
abbrev pub invariant-loop-function : goal.invariant-loop-function
invariant-loop-function l = AllByRecursion IsFunctionDefined (take l.function-index l.functions)
