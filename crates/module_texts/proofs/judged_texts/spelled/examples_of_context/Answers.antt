use Rattle.module_texts.proofs.JudgedTexts.Context.{names_stand_behind_types}
use Rattle.module_texts.proofs.judged_texts.spelled.examples_of_context.Goals as goal

pub returns : goal.returns
returns c = names_stand_behind_types
