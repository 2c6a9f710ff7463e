use Rattle.std.proofs.Common.{◌≡◌, ◌++◌, drop}
use Rattle.ir_core.specs.Functions.{names_in, set_by}
use Rattle.definedness.specs.DefinitionLists.Shown.{named}
use Rattle.definedness.proofs.definition_lists.names.add_lines.Given as goal

abbrev pub invariant-loop-line : goal.invariant-loop-line
invariant-loop-line l =
    named l.names.items ++ names_in (set_by (drop l.line-index l.lines)) ≡ named l.initial.names.items ++ names_in (set_by l.lines)
