use Rattle.erhl_soundness.proofs.Coming.{line_comes}
use Rattle.erhl_soundness.proofs.a_line_comes_to_what_is_known.Goals as goal

pub returns : goal.returns
returns c = line_comes
