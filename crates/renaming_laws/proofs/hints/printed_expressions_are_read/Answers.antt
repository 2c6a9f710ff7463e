-- The laws are lemmas of their own.
use Rattle.renaming_laws.proofs.PrintedExpressions as law
use Rattle.renaming_laws.proofs.hints.printed_expressions_are_read.Goals as goal

pub returns-clause-read : goal.returns-clause-read
returns-clause-read c = law.printed_expressions_are_read

pub returns-clause-apart : goal.returns-clause-apart
returns-clause-apart c = law.printed_expressions_are_apart
