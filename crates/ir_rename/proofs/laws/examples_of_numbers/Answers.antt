use Rattle.std.proofs.Common.{refl}
use Rattle.ir_rename.proofs.laws.examples_of_numbers.Goals as goal

pub returns : goal.returns
returns c = record { counted = refl; kept = refl; beside_texts = refl; in_a_loop = refl; each = refl }
