use Rattle.std.proofs.Common.{◌≡◌, drop}
use Rattle.std.specs.List.{flat_map}
use Rattle.ir_typing.specs.ModuleLimits.Small.{are_small, wanted_by_phi}
use Rattle.ir_typing.proofs.module_limits.sizes.are_phis_small.Given as goal

abbrev pub invariant-loop-phi : goal.invariant-loop-phi
invariant-loop-phi l = are_small l.«module».types (flat_map (wanted_by_phi l.«module».types) (drop l.phi-index l.phis)) ≡ are_small l.«module».types (flat_map (wanted_by_phi l.«module».types) l.phis)
