-- Of limits one is the first that is passed.
use Rattle.std.proofs.Common.{◌≡◌, refl}
use Rattle.ir_core.specs.declared.limits.Limit.{Limit}
use Rattle.ir_core.specs.declared.limits.Limit.TheVariants as limit
use Rattle.ir_core.specs.Depths.{AreShallow, IsShallow, depths_in_function}
use Rattle.ir_core.specs.Sizes.{AreSmall, IsSmall, wanted_in_function}
use Rattle.ir_typing.specs.ModuleLimits.Laws.{LimitsAreOne, LimitsOfFunctionsAreOne}
use Rattle.ir_typing.specs.ModuleLimits.Passed.{AreShort, IsFirstPassed, IsShort}

one_is_first : (shallow short small : Type 0) (a b : Limit) → IsFirstPassed shallow short small a → IsFirstPassed shallow short small b → a ≡ b
one_is_first shallow short small limit.Depth limit.Depth at_a at_b = refl
one_is_first shallow short small limit.Depth limit.Lines at_a at_b = absurd (at_a at_b.0)
one_is_first shallow short small limit.Depth limit.Block at_a at_b = absurd (at_a at_b.0)
one_is_first shallow short small limit.Depth b at_a at_b = absurd at_b
one_is_first shallow short small limit.Lines limit.Depth at_a at_b = absurd (at_b at_a.0)
one_is_first shallow short small limit.Lines limit.Lines at_a at_b = refl
one_is_first shallow short small limit.Lines limit.Block at_a at_b = absurd (at_a.1 at_b.1)
one_is_first shallow short small limit.Lines b at_a at_b = absurd at_b
one_is_first shallow short small limit.Block limit.Depth at_a at_b = absurd (at_b at_a.0)
one_is_first shallow short small limit.Block limit.Lines at_a at_b = absurd (at_b.1 at_a.1)
one_is_first shallow short small limit.Block limit.Block at_a at_b = refl
one_is_first shallow short small limit.Block b at_a at_b = absurd at_b
one_is_first shallow short small a b at_a at_b = absurd at_a

pub limits_are_one : LimitsAreOne
limits_are_one m = one_is_first (IsShallow m) (AreShort m.functions) (IsSmall m)

pub limits_of_functions_are_one : LimitsOfFunctionsAreOne
limits_of_functions_are_one m f = one_is_first (AreShallow (depths_in_function f)) (IsShort f) (AreSmall m.types (wanted_in_function m.types f))
