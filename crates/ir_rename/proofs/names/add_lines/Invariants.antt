use Rattle.std.proofs.Common.{◌≡◌, ◌++◌, drop}
use Rattle.ir_core.specs.Functions.{names_in, set_by}
use Rattle.ir_rename.specs.Lent.{lent}
use Rattle.ir_rename.proofs.names.add_lines.Given as goal

abbrev pub invariant-loop-line : goal.invariant-loop-line
invariant-loop-line l =
    lent l.names.items ++ names_in (set_by (drop l.line-index l.lines)) ≡ lent l.initial.names.items ++ names_in (set_by l.lines)
