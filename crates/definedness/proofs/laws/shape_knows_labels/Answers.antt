use Rattle.definedness.proofs.Shaped.{shape_knows_labels}
use Rattle.definedness.proofs.laws.shape_knows_labels.Goals as goal

pub returns : goal.returns
returns c m f shape = shape_knows_labels m f shape
