use Rattle.erhl_soundness.proofs.FineSides.{fine_sides}
use Rattle.erhl_soundness.proofs.fine_sides_are_there.Goals as goal

pub returns : goal.returns
returns c = fine_sides
