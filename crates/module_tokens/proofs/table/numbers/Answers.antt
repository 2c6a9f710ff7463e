use Rattle.std.proofs.Common.{refl}
use Rattle.module_tokens.specs.Slots.{slot}
use Rattle.module_tokens.proofs.table.numbers.Goals as goal

pub returns : goal.returns
unfolding slot
returns c = refl
