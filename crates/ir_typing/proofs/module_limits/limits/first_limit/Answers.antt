use Rattle.std.proofs.Common.{◌∙◌, sym, ap}
use Rattle.std.specs.List.{list_all}
use Rattle.ir_core.specs.Depths.{depths_in}
use Rattle.ir_core.specs.Sizes.{wanted_in}
use Rattle.ir_typing.specs.ModuleLimits.Lines.{is_short}
use Rattle.ir_typing.proofs.ModuleLimits.Decided.{shallow_by, shallow_not, small_by, small_not}
use Rattle.ir_typing.proofs.ModuleLimits.Short.{short_by, short_not}
use Rattle.ir_typing.proofs.module_limits.limits.first_limit.Goals as goal

pub returns-then-not-is_shallow-clause-some : goal.returns-then-not-is_shallow-clause-some
returns-then-not-is_shallow-clause-some c = shallow_not (depths_in c.args.«module».now) (sym c.is_shallow.ensures ∙ c.if-not-is_shallow.true)

pub returns-then-not-are_short-clause-some : goal.returns-then-not-are_short-clause-some
returns-then-not-are_short-clause-some c = (
  shallow_by (depths_in c.args.«module».now) (sym c.is_shallow.ensures ∙ c.if-not-is_shallow.false),
  short_not c.args.«module».now.functions (ap (list_all is_short) (sym c.as_slice.ensures) ∙ sym c.are_short.ensures ∙ c.if-not-are_short.true),
)

pub returns-then-is_small-clause-none : goal.returns-then-is_small-clause-none
returns-then-is_small-clause-none c = (
  shallow_by (depths_in c.args.«module».now) (sym c.is_shallow.ensures ∙ c.if-not-is_shallow.false),
  short_by c.args.«module».now.functions (ap (list_all is_short) (sym c.as_slice.ensures) ∙ sym c.are_short.ensures ∙ c.if-not-are_short.false),
  small_by c.args.«module».now.types (wanted_in c.args.«module».now) (sym c.is_small.ensures ∙ c.if-is_small.true),
)

pub returns-else-is_small-clause-some : goal.returns-else-is_small-clause-some
returns-else-is_small-clause-some c = (
  shallow_by (depths_in c.args.«module».now) (sym c.is_shallow.ensures ∙ c.if-not-is_shallow.false),
  short_by c.args.«module».now.functions (ap (list_all is_short) (sym c.as_slice.ensures) ∙ sym c.are_short.ensures ∙ c.if-not-are_short.false),
  small_not c.args.«module».now.types (wanted_in c.args.«module».now) (sym c.is_small.ensures ∙ c.if-is_small.false),
)
