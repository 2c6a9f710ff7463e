use Rattle.std.proofs.Common.{sym}
use Rattle.module_walk.proofs.OfNothing.{no_operation_built}
use Rattle.module_walk.proofs.operations.no_operation.Goals as goal

pub returns : goal.returns
returns g c = sym (no_operation_built g.R.Registers.naming c.no_flags.result c.no_flags.ensures)
