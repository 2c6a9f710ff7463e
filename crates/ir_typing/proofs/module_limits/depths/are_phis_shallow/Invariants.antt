use Rattle.std.proofs.Common.{◌≡◌, drop}
use Rattle.std.specs.List.{flat_map}
use Rattle.ir_core.specs.Depths.{depths_at_phi}
use Rattle.ir_typing.specs.ModuleLimits.Within.{are_shallow}
use Rattle.ir_typing.proofs.module_limits.depths.are_phis_shallow.Given as goal

abbrev pub invariant-loop-phi : goal.invariant-loop-phi
invariant-loop-phi l = are_shallow (flat_map depths_at_phi (drop l.phi-index l.phis)) ≡ are_shallow (flat_map depths_at_phi l.phis)
