use Rattle.erhl_soundness.proofs.Allocas.{allocas_keep}
use Rattle.erhl_soundness.proofs.an_alloca_keeps_what_holds.Goals as goal

pub returns : goal.returns
returns c = allocas_keep
