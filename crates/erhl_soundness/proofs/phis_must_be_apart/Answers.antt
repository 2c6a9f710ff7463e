use Rattle.erhl_soundness.proofs.Apart.{must_be_apart}
use Rattle.erhl_soundness.proofs.phis_must_be_apart.Goals as goal

pub returns : goal.returns
returns c = must_be_apart
