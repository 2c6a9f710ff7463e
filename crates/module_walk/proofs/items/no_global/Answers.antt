use Rattle.module_walk.proofs.Parts.{no_global_built}
use Rattle.module_walk.proofs.items.no_global.Goals as goal

pub returns : goal.returns
returns c = no_global_built c.args.name
