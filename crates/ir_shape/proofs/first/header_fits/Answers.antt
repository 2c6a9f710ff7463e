use Rattle.std.proofs.Common.{rules}
use Rattle.ir_shape.proofs.first.header_fits.Goals as goal

pub returns-in_ok-copy-in-Some-clause-fault : goal.returns-in_ok-copy-in-Some-clause-fault
returns-in_ok-copy-in-Some-clause-fault c = search rules
