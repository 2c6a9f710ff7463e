use Rattle.crell_program.proofs.OneAnswer.{due_is_one, status_is_one, usage_is_said, usages_differ_on_err}
use Rattle.crell_program.proofs.laws.due_is_one.Goals as goal

pub returns-clause-commands : goal.returns-clause-commands
returns-clause-commands c = due_is_one c.module_faults_are_one.ensures c.first_faults_agree.ensures.spelled c.lines_are_one.ensures

pub returns-clause-statuses : goal.returns-clause-statuses
returns-clause-statuses c = status_is_one (due_is_one c.module_faults_are_one.ensures c.first_faults_agree.ensures.spelled c.lines_are_one.ensures)

pub returns-clause-others : goal.returns-clause-others
returns-clause-others c = usages_differ_on_err

pub returns-clause-usage : goal.returns-clause-usage
returns-clause-usage c = usage_is_said
