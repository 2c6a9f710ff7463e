use Rattle.std.proofs.Common.{rules}
use Rattle.crell_io.proofs.host.append_some.Goals as goal

pub returns-clause-length : goal.returns-clause-length
returns-clause-length g c = search rules

pub returns-clause-taken : goal.returns-clause-taken
returns-clause-taken g c = search rules
