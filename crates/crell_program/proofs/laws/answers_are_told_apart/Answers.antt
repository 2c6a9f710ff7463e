use Rattle.crell_program.proofs.Examples.{headlines_are_of_texts, parts_are_not_all, readings_are_one, statuses_of_examples}
use Rattle.crell_program.proofs.laws.answers_are_told_apart.Goals as goal

pub returns-clause-statuses : goal.returns-clause-statuses
returns-clause-statuses c = statuses_of_examples

pub returns-clause-headlines : goal.returns-clause-headlines
returns-clause-headlines c = headlines_are_of_texts

pub returns-clause-readings : goal.returns-clause-readings
returns-clause-readings c = readings_are_one

pub returns-clause-deliveries : goal.returns-clause-deliveries
returns-clause-deliveries c = parts_are_not_all
