use Rattle.erhl_soundness.proofs.Counting.{counted}
use Rattle.erhl_soundness.proofs.facts_are_counted.Goals as goal

pub returns : goal.returns
returns c = counted
