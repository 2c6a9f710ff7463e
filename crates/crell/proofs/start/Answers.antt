use Rattle.std.proofs.Common.{sym}
use Rattle.crell.proofs.start.Goals as goal

-- the words that were read are those of the run
pub returns-in-Ok-clause-no_command : goal.returns-in-Ok-clause-no_command
returns-in-Ok-clause-no_command g c = rw c.in-Ok.is (rw (sym c.deref.ensures.value) c.run.ensures.no_command)
