use Rattle.erhl_soundness.proofs.Related.{line_keeps}
use Rattle.erhl_soundness.proofs.a_line_keeps_what_holds.Goals as goal

pub returns : goal.returns
returns c = line_keeps
