use Rattle.std.proofs.Common.{rules}
use Rattle.ir_core.proofs.Widths.{one_shifted}
use Rattle.ir_core.proofs.types.fits.Goals as goal

pub returns-else-width-ge64 : goal.returns-else-width-ge64
returns-else-width-ge64 c = search (rules, one_shifted)
