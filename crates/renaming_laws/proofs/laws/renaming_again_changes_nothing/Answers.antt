use Rattle.renaming_laws.proofs.Again.{named_have_no_numbers, naming_again, numbering_again, texts_stay}
use Rattle.renaming_laws.proofs.laws.renaming_again_changes_nothing.Goals as goal

pub returns-clause-texts : goal.returns-clause-texts
returns-clause-texts c = texts_stay

pub returns-clause-named : goal.returns-clause-named
returns-clause-named c = naming_again c.named_functions_are_renamed.ensures.texts

pub returns-clause-numbered : goal.returns-clause-numbered
returns-clause-numbered c = numbering_again

pub returns-clause-both : goal.returns-clause-both
returns-clause-both c = named_have_no_numbers c.named_functions_are_renamed.ensures.texts
