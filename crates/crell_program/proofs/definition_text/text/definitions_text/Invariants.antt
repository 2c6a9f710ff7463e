use Rattle.std.proofs.Common.{take}
use Rattle.crell_program.specs.DefinitionText.Lines.{AreLines}
use Rattle.crell_program.proofs.definition_text.text.definitions_text.Given as goal

-- the lines of the functions so far are written
abbrev pub invariant-loop-function : goal.invariant-loop-function
invariant-loop-function l = AreLines (take l.function-index l.functions) l.text.items
