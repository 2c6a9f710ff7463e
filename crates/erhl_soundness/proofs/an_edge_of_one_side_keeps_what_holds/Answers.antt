use Rattle.erhl_soundness.proofs.OneSide.{edges_keep}
use Rattle.erhl_soundness.proofs.an_edge_of_one_side_keeps_what_holds.Goals as goal

pub returns : goal.returns
returns c = edges_keep
