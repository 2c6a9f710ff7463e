use Rattle.std.proofs.Common.{rules}
use Rattle.crell_io.proofs.host.write_some.Goals as goal

pub returns-in-Ok-clause-bytes : goal.returns-in-Ok-clause-bytes
returns-in-Ok-clause-bytes g c = search rules
