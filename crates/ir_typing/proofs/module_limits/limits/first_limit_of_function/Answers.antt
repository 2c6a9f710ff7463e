use Rattle.std.proofs.Common.{◌∙◌, sym}
use Rattle.ir_core.specs.Depths.{depths_in_function}
use Rattle.ir_core.specs.Sizes.{wanted_in_function}
use Rattle.ir_typing.proofs.ModuleLimits.Decided.{shallow_by, shallow_not, small_by, small_not}
use Rattle.ir_typing.proofs.ModuleLimits.Short.{one_by, one_not}
use Rattle.ir_typing.proofs.module_limits.limits.first_limit_of_function.Goals as goal

pub returns-then-not-is_function_shallow-clause-some : goal.returns-then-not-is_function_shallow-clause-some
returns-then-not-is_function_shallow-clause-some c =
    shallow_not (depths_in_function c.args.function.now) (sym c.is_function_shallow.ensures ∙ c.if-not-is_function_shallow.true)

pub returns-then-not-is_short-clause-some : goal.returns-then-not-is_short-clause-some
returns-then-not-is_short-clause-some c = (
  shallow_by (depths_in_function c.args.function.now) (sym c.is_function_shallow.ensures ∙ c.if-not-is_function_shallow.false),
  one_not c.args.function.now (sym c.is_short.ensures ∙ c.if-not-is_short.true),
)

pub returns-then-is_function_small-clause-none : goal.returns-then-is_function_small-clause-none
returns-then-is_function_small-clause-none c = (
  shallow_by (depths_in_function c.args.function.now) (sym c.is_function_shallow.ensures ∙ c.if-not-is_function_shallow.false),
  one_by c.args.function.now (sym c.is_short.ensures ∙ c.if-not-is_short.false),
  small_by c.args.«module».now.types (wanted_in_function c.args.«module».now.types c.args.function.now) (sym c.is_function_small.ensures ∙ c.if-is_function_small.true),
)

pub returns-else-is_function_small-clause-some : goal.returns-else-is_function_small-clause-some
returns-else-is_function_small-clause-some c = (
  shallow_by (depths_in_function c.args.function.now) (sym c.is_function_shallow.ensures ∙ c.if-not-is_function_shallow.false),
  one_by c.args.function.now (sym c.is_short.ensures ∙ c.if-not-is_short.false),
  small_not c.args.«module».now.types (wanted_in_function c.args.«module».now.types c.args.function.now) (sym c.is_function_small.ensures ∙ c.if-is_function_small.false),
)
