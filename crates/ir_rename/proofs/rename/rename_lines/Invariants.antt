use Rattle.std.proofs.Common.{◌≡◌, ◌++◌, drop, map}
use Rattle.ir_rename.specs.Lent.{renamed}
use Rattle.ir_rename.specs.Renamed.{rename_line}
use Rattle.ir_rename.proofs.rename.rename_lines.Given as goal

abbrev pub invariant-loop-line : goal.invariant-loop-line
invariant-loop-line l = l.renamed.items ++ map (rename_line (renamed l.names)) (drop l.line-index l.lines) ≡ map (rename_line (renamed l.names)) l.lines
