use Rattle.std.proofs.Common.{rules}
use Rattle.crell_io.proofs.mem_shelf.copy_within.Goals as goal

pub returns-clause-contents : goal.returns-clause-contents
returns-clause-contents c = search rules

pub returns-clause-taken_all : goal.returns-clause-taken_all
returns-clause-taken_all c = search rules
