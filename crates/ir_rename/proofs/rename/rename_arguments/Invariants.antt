use Rattle.std.proofs.Common.{◌≡◌, ◌++◌, drop, map}
use Rattle.ir_rename.specs.Lent.{renamed}
use Rattle.ir_rename.specs.Renamed.{rename_argument}
use Rattle.ir_rename.proofs.rename.rename_arguments.Given as goal

abbrev pub invariant-loop-argument : goal.invariant-loop-argument
invariant-loop-argument l = l.renamed.items ++ map (rename_argument (renamed l.names)) (drop l.argument-index l.arguments) ≡ map (rename_argument (renamed l.names)) l.arguments
