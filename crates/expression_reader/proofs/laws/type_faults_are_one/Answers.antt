-- A text has a fault by one of the steps alone, and there one.
use Rattle.expression_reader.proofs.TypeFound.{faults_are_one}
use Rattle.expression_reader.proofs.laws.type_faults_are_one.Goals as goal

pub returns : goal.returns
returns c = faults_are_one c.written_once.ensures.types
