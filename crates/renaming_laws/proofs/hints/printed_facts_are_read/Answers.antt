-- The law is a lemma of its own.
use Rattle.renaming_laws.proofs.PrintedFacts as law
use Rattle.renaming_laws.proofs.hints.printed_facts_are_read.Goals as goal

pub returns : goal.returns
returns c = law.printed_facts_are_read
