-- The limits on modules: how deep types and constants stand in one another, how many lines a function has, and how much memory is wanted at once.
use Rattle.std.specs.Prelude.{◌≤◌, List}
use Rattle.std.specs.List.{AllByRecursion}
use Rattle.ir_core.specs.declared.functions.Function.{Function}
use Rattle.ir_core.specs.declared.limits.Limit.{Limit}
use Rattle.ir_core.specs.declared.limits.Limit.TheVariants as limit
use Rattle.ir_core.specs.declared.modules.Module.{Module}
use Rattle.ir_core.specs.Depths.{AreShallow, IsShallow, depths_in_function}
use Rattle.ir_core.specs.Functions.{line_count}
use Rattle.ir_core.specs.Limits.{line_limit}
use Rattle.ir_core.specs.Sizes.{AreSmall, IsSmall, wanted_in_function}

abbrev pub IsShort : Function → Type 0
IsShort f = line_count f ≤ line_limit

abbrev pub AreShort : List Function → Type 0
AreShort = AllByRecursion IsShort

-- no limit is passed
abbrev pub IsWithin : Module → Type 0
IsWithin m = IsShallow m × AreShort m.functions × IsSmall m

-- a function beside a module passes none
abbrev pub IsFunctionWithin : Module → Function → Type 0
IsFunctionWithin m f = AreShallow (depths_in_function f) × IsShort f × AreSmall m.types (wanted_in_function m.types f)

-- of limits that these say not to be passed, this is the first that is: depths before lines, and lines before blocks
abbrev pub IsFirstPassed : Type 0 → Type 0 → Type 0 → Limit → Type 0
IsFirstPassed shallow short small limit.Depth = shallow → ⊥
IsFirstPassed shallow short small limit.Lines = shallow × (short → ⊥)
IsFirstPassed shallow short small limit.Block = shallow × short × (small → ⊥)
IsFirstPassed shallow short small l = ⊥

abbrev pub IsPassed : Module → Limit → Type 0
IsPassed m = IsFirstPassed (IsShallow m) (AreShort m.functions) (IsSmall m)

abbrev pub IsPassedByFunction : Module → Function → Limit → Type 0
IsPassedByFunction m f = IsFirstPassed (AreShallow (depths_in_function f)) (IsShort f) (AreSmall m.types (wanted_in_function m.types f))
