-- The laws are lemmas of their own.
use Rattle.hint_format.proofs.Readings as law
use Rattle.hint_format.proofs.laws.hint_files_are_read.Goals as goal

pub returns-clause-texts : goal.returns-clause-texts
returns-clause-texts c = law.texts_are_read

pub returns-clause-leaves : goal.returns-clause-leaves
returns-clause-leaves c = law.leaves_are_one

pub returns-clause-one : goal.returns-clause-one
returns-clause-one c = law.readings_are_one
