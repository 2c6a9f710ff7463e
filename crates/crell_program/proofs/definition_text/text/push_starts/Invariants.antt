use Rattle.std.proofs.Common.{◌≡◌, ◌++◌, drop}
use Rattle.definedness.specs.DefinitionLists.Shown.{lists_named}
use Rattle.crell_program.specs.DefinitionText.Lines.{starts_text}
use Rattle.crell_program.proofs.definition_text.text.push_starts.Given as goal

-- what is written and the lines that are left make up the whole
abbrev pub invariant-loop-at : goal.invariant-loop-at
invariant-loop-at l =
    l.text.items ++ starts_text l.function (drop l.at l.blocks) (drop l.at (lists_named l.lists))
    ≡ l.initial.text.items ++ starts_text l.function l.blocks (lists_named l.lists)
