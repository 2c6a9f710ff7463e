use Rattle.erhl_soundness.proofs.MemoryExamples.{kills_told, no_alias_told, ok_told, private_told, unique_told}
use Rattle.erhl_soundness.proofs.facts_of_memory_are_told.Goals as goal

pub returns-clause-unique : goal.returns-clause-unique
returns-clause-unique c = unique_told

pub returns-clause-private : goal.returns-clause-private
returns-clause-private c = private_told

pub returns-clause-no_alias : goal.returns-clause-no_alias
returns-clause-no_alias c = no_alias_told

pub returns-clause-ok : goal.returns-clause-ok
returns-clause-ok c = ok_told

pub returns-clause-kills : goal.returns-clause-kills
returns-clause-kills c = kills_told
