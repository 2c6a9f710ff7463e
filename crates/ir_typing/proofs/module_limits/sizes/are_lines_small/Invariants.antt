use Rattle.std.proofs.Common.{◌≡◌, drop}
use Rattle.std.specs.List.{flat_map}
use Rattle.ir_core.specs.Sizes.{wanted_by_line}
use Rattle.ir_typing.specs.ModuleLimits.Small.{are_small}
use Rattle.ir_typing.proofs.module_limits.sizes.are_lines_small.Given as goal

abbrev pub invariant-loop-line : goal.invariant-loop-line
invariant-loop-line l = are_small l.«module».types (flat_map (wanted_by_line l.«module».types) (drop l.line-index l.lines)) ≡ are_small l.«module».types (flat_map (wanted_by_line l.«module».types) l.lines)
