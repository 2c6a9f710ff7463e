use Rattle.ir_rename.proofs.Namings.{named_are_texts, naming_renames, numbers_get_fresh_names}
use Rattle.ir_rename.proofs.laws.named_functions_are_renamed.Goals as goal

pub returns-clause-renamed : goal.returns-clause-renamed
returns-clause-renamed c = naming_renames

pub returns-clause-texts : goal.returns-clause-texts
returns-clause-texts c = named_are_texts

pub returns-clause-fresh : goal.returns-clause-fresh
returns-clause-fresh c = numbers_get_fresh_names
