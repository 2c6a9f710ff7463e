use Rattle.std.proofs.Common.{◌≡◌, drop}
use Rattle.erhl_assert.specs.Edges.{phi_setting}
use Rattle.postcondition.proofs.block_phis.phis.first_setting.Given as goal

abbrev pub invariant-loop-phi : goal.invariant-loop-phi
invariant-loop-phi l = phi_setting l.name (drop l.phi-index l.phis) ≡ phi_setting l.name l.phis
