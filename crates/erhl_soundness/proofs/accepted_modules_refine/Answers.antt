use Rattle.erhl_soundness.proofs.Modules.{accepted_modules}
use Rattle.erhl_soundness.proofs.accepted_modules_refine.Goals as goal

pub returns : goal.returns
returns c = accepted_modules
