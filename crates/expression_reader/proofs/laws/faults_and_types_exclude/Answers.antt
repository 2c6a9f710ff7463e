-- A text that spells a type has no fault, by none of the steps.
use Rattle.expression_reader.proofs.TypeWhole.{exclude}
use Rattle.expression_reader.proofs.laws.faults_and_types_exclude.Goals as goal

pub returns : goal.returns
returns c = exclude c.written_once.ensures.types
