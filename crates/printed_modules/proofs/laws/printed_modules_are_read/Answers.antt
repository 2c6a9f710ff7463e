-- What has shape, is in range and passes no limit can be written as text, and is printed so.
use Rattle.printed_modules.proofs.Shaped.{fits_module}
use Rattle.printed_modules.proofs.Spelled.{module_spelled}
use Rattle.printed_modules.proofs.laws.printed_modules_are_read.Goals as goal

pub returns : goal.returns
returns c m order shape range within =
    module_spelled m (fits_module m order shape range within.0 within.1) within.0 within.1 within.2
