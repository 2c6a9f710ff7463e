use Rattle.erhl_soundness.proofs.Shapes.{shapes_keep_apart}
use Rattle.erhl_soundness.proofs.shapes_keep_phis_apart.Goals as goal

pub returns : goal.returns
returns c = shapes_keep_apart
