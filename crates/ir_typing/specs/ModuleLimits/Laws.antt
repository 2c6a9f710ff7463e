-- Laws of the limits.
use Rattle.std.specs.Prelude.{◌≡◌}
use Rattle.ir_core.specs.declared.functions.Function.{Function}
use Rattle.ir_core.specs.declared.limits.Limit.{Limit}
use Rattle.ir_core.specs.declared.modules.Module.{Module}
use Rattle.ir_typing.specs.ModuleLimits.Passed.{IsPassed, IsPassedByFunction}

-- One limit at most is the first that a module passes.
abbrev pub LimitsAreOne : Type 0
LimitsAreOne = (m : Module) (a b : Limit) → IsPassed m a → IsPassed m b → a ≡ b

-- So it is of a function beside a module.
abbrev pub LimitsOfFunctionsAreOne : Type 0
LimitsOfFunctionsAreOne = (m : Module) (f : Function) (a b : Limit) → IsPassedByFunction m f a → IsPassedByFunction m f b → a ≡ b
