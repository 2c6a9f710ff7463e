use Rattle.std.proofs.Common.{◌≡◌, ◌++◌, drop}
use Rattle.definedness.specs.DefinitionLists.Shown.{named}
use Rattle.crell_program.specs.DefinitionText.Lines.{registers_text}
use Rattle.crell_program.proofs.definition_text.text.push_registers.Given as goal

-- what is written and the names that are left make up the whole
abbrev pub invariant-loop-name : goal.invariant-loop-name
invariant-loop-name l = l.text.items ++ registers_text (drop l.name-index (named l.names)) ≡ l.initial.text.items ++ registers_text (named l.names)
