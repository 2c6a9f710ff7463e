use Rattle.erhl_soundness.proofs.Coming.{hints_come}
use Rattle.erhl_soundness.proofs.hints_are_put_in.Goals as goal

pub returns : goal.returns
returns c = hints_come
