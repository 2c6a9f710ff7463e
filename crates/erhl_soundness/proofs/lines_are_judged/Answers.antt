use Rattle.erhl_soundness.proofs.Counting.{judged}
use Rattle.erhl_soundness.proofs.lines_are_judged.Goals as goal

pub returns : goal.returns
returns c = judged
