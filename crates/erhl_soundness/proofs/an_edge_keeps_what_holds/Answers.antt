use Rattle.erhl_soundness.proofs.Crossing.{edge_keeps}
use Rattle.erhl_soundness.proofs.an_edge_keeps_what_holds.Goals as goal

pub returns : goal.returns
returns c = edge_keeps
