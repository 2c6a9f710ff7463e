-- A text has a fault by one of the steps alone, and there one.
use Rattle.module_texts.proofs.OneFault.{one_fault}
use Rattle.module_texts.proofs.laws.faults_are_one.Goals as goal

pub returns : goal.returns
returns c = one_fault c.written_once.ensures.modules c.marks_the_first.ensures c.called_names_stand.ensures c.declared_names_stand.ensures
