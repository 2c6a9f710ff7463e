use Rattle.std.proofs.Common.{refl}
use Rattle.module_spelling.proofs.laws.examples_of_lines.Goals as goal

pub returns : goal.returns
returns c = record { restart = refl; calls = refl }
