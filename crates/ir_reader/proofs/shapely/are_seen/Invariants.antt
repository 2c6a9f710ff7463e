use Rattle.std.proofs.Common.{◌≡◌, [], drop, map}
use Rattle.std.specs.List.{AllByRecursion}
use Rattle.ir_core.specs.declared.functions.Function.{Function}
use Rattle.ir_core.specs.WellFormed.{HasFunctionShape, IsFunctionDefined}
use Rattle.ir_typing.specs.ShapeKinds.Names.{are_new}
use Rattle.ir_reader.proofs.shapely.are_seen.Given as goal

-- the functions that are left decide
abbrev pub invariant-loop-function : goal.invariant-loop-function
invariant-loop-function l =
    (are_new l.names (map (λ (f : Function). f.name) (drop l.function-index l.functions)) ≡ are_new [] (map (λ (f : Function). f.name) l.functions))
    × (AllByRecursion (HasFunctionShape l._module) (drop l.function-index l.functions) → AllByRecursion (HasFunctionShape l._module) l.functions)
    × (AllByRecursion IsFunctionDefined (drop l.function-index l.functions) → AllByRecursion IsFunctionDefined l.functions)
