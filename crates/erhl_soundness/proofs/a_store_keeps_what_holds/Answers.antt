use Rattle.erhl_soundness.proofs.Stores.{stores_keep}
use Rattle.erhl_soundness.proofs.a_store_keeps_what_holds.Goals as goal

pub returns : goal.returns
returns c = stores_keep
