-- A text that spells an expression has no fault, by none of the steps.
use Rattle.expression_reader.proofs.Whole.{exclude}
use Rattle.expression_reader.proofs.laws.faults_and_expressions_exclude.Goals as goal

pub returns : goal.returns
returns c = exclude c.written_once.ensures.expressions
