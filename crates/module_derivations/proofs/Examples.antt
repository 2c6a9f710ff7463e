use Rattle.std.proofs.Common.{refl}
use Rattle.module_derivations.specs.Examples.{MarksMean}

pub marks_mean : MarksMean
marks_mean = record { type = refl; load = refl; items = refl; other = refl; nothing = refl }
