use Rattle.std.proofs.Common.{rules}
use Rattle.ir_shape.proofs.first.name_fits.Goals as goal

pub returns-clause-fits : goal.returns-clause-fits
returns-clause-fits c = search rules

pub returns-clause-fault : goal.returns-clause-fault
returns-clause-fault c = search rules
