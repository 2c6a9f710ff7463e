use Rattle.std.proofs.Common.{refl}
use Rattle.rules_memory.proofs.Table.{all_stand_there}
use Rattle.rules_memory.proofs.rules.rules_stand_in_the_table.Goals as goal

pub returns-clause-table : goal.returns-clause-table
returns-clause-table c = refl

pub returns-clause-whole : goal.returns-clause-whole
returns-clause-whole c = all_stand_there

pub returns-clause-named_apart : goal.returns-clause-named_apart
returns-clause-named_apart c = refl
