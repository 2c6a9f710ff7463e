use Rattle.std.proofs.Common.{◌≡◌, ◌++◌, drop, map}
use Rattle.ir_rename.specs.Lent.{renamed}
use Rattle.ir_rename.specs.Renamed.{rename_param}
use Rattle.ir_rename.proofs.rename.rename_params.Given as goal

abbrev pub invariant-loop-param : goal.invariant-loop-param
invariant-loop-param l = l.renamed.items ++ map (rename_param (renamed l.names)) (drop l.param-index l.params) ≡ map (rename_param (renamed l.names)) l.params
