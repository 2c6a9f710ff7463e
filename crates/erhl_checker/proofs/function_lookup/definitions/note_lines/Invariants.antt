use Rattle.std.proofs.Common.{◌≡◌, ◌++◌, drop}
use Rattle.ir_core.specs.Functions.{set_by}
use Rattle.erhl_checker.proofs.function_lookup.definitions.note_lines.Given as goal

abbrev pub invariant-loop-line : goal.invariant-loop-line
invariant-loop-line l =
    l.found.items ++ set_by (drop l.line-index l.lines)
    ≡ l.initial.found.items ++ set_by l.lines
