use Rattle.std.proofs.Common.{refl}
use Rattle.module_spelling.proofs.laws.examples_of_depths.Goals as goal

pub returns : goal.returns
returns c = record { pointer = refl; array = refl; list = refl }
