use Rattle.std.proofs.Common.{◌≡◌, ◌++◌, drop, map}
use Rattle.ir_rename.specs.Lent.{renamed}
use Rattle.ir_rename.specs.Renamed.{rename_case}
use Rattle.ir_rename.proofs.rename.rename_cases.Given as goal

abbrev pub invariant-loop-case : goal.invariant-loop-case
invariant-loop-case l = l.renamed.items ++ map (rename_case (renamed l.names)) (drop l.case-index l.cases) ≡ map (rename_case (renamed l.names)) l.cases
