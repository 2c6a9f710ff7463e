-- A text that is spelled has no fault, by none of the steps.
use Rattle.module_texts.proofs.Excluded.{exclude}
use Rattle.module_texts.proofs.laws.faults_and_spelling_exclude.Goals as goal

pub returns : goal.returns
returns c = exclude c.written_once.ensures.modules c.named_trees_are_faultless.ensures c.marks_the_first.ensures
