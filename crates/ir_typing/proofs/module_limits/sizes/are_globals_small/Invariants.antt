use Rattle.std.proofs.Common.{◌≡◌, drop}
use Rattle.std.specs.List.{flat_map}
use Rattle.ir_core.specs.Sizes.{wanted_by_global}
use Rattle.ir_typing.specs.ModuleLimits.Small.{are_small}
use Rattle.ir_typing.proofs.module_limits.sizes.are_globals_small.Given as goal

abbrev pub invariant-loop-global : goal.invariant-loop-global
invariant-loop-global l = are_small l.«module».types (flat_map (wanted_by_global l.«module».types) (drop l.global-index l.globals)) ≡ are_small l.«module».types (flat_map (wanted_by_global l.«module».types) l.globals)
