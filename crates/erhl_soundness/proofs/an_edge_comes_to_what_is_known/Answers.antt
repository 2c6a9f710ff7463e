use Rattle.erhl_soundness.proofs.Coming.{edge_comes}
use Rattle.erhl_soundness.proofs.an_edge_comes_to_what_is_known.Goals as goal

pub returns : goal.returns
returns c = edge_comes
