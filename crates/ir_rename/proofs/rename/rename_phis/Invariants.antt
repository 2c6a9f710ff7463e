use Rattle.std.proofs.Common.{◌≡◌, ◌++◌, drop, map}
use Rattle.ir_rename.specs.Lent.{renamed}
use Rattle.ir_rename.specs.Renamed.{rename_phi}
use Rattle.ir_rename.proofs.rename.rename_phis.Given as goal

abbrev pub invariant-loop-phi : goal.invariant-loop-phi
invariant-loop-phi l = l.renamed.items ++ map (rename_phi (renamed l.names)) (drop l.phi-index l.phis) ≡ map (rename_phi (renamed l.names)) l.phis
