use Rattle.crell_program.proofs.Parts.{failures_leave_first_parts, parts_are_first, parts_of_examples}
use Rattle.crell_program.proofs.laws.failed_sinks_hold_first_parts.Goals as goal

pub returns-clause-parts : goal.returns-clause-parts
returns-clause-parts c = parts_are_first

pub returns-clause-failures : goal.returns-clause-failures
returns-clause-failures c = failures_leave_first_parts

pub returns-clause-examples : goal.returns-clause-examples
returns-clause-examples c = parts_of_examples
