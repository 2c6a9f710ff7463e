use Rattle.erhl_soundness.proofs.CalmLines.{calm_lines_keep}
use Rattle.erhl_soundness.proofs.a_calm_line_keeps_what_holds.Goals as goal

pub returns : goal.returns
returns c = calm_lines_keep
