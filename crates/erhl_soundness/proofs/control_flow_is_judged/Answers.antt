use Rattle.erhl_soundness.proofs.Counting.{flow_judged}
use Rattle.erhl_soundness.proofs.control_flow_is_judged.Goals as goal

pub returns : goal.returns
returns c = flow_judged
