-- The law is a lemma of its own.
use Rattle.renaming_laws.proofs.PrintedTypes as law
use Rattle.renaming_laws.proofs.hints.printed_types_are_read.Goals as goal

pub returns : goal.returns
returns c = law.printed_types_are_read
