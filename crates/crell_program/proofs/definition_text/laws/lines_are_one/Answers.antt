use Rattle.crell_program.proofs.DefinitionText.Writing.{lines_are_one}
use Rattle.crell_program.proofs.definition_text.laws.lines_are_one.Goals as goal

pub returns : goal.returns
returns c = lines_are_one
