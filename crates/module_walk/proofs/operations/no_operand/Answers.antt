use Rattle.std.proofs.Common.{sym}
use Rattle.module_walk.proofs.OfNothing.{no_operand_built}
use Rattle.module_walk.proofs.operations.no_operand.Goals as goal

pub returns : goal.returns
returns g c = sym (no_operand_built g.R.Registers.naming)
