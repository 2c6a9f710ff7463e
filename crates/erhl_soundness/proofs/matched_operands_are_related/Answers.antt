use Rattle.erhl_soundness.proofs.Related.{operands_related}
use Rattle.erhl_soundness.proofs.matched_operands_are_related.Goals as goal

pub returns : goal.returns
returns c = operands_related
