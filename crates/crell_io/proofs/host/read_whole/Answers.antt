use Rattle.std.proofs.Common.{rules}
use Rattle.crell_io.proofs.host.read_whole.Goals as goal

pub returns-clause-whole : goal.returns-clause-whole
returns-clause-whole g c = search rules
