use Rattle.erhl_soundness.proofs.Bounding.{sizes_bound}
use Rattle.erhl_soundness.proofs.sizes_bound_what_is_known.Goals as goal

pub returns : goal.returns
returns c = sizes_bound
