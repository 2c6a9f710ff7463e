use Rattle.std.proofs.Common.{rules}
use Rattle.definedness.proofs.Defining.{named_there}
use Rattle.whole_functions.proofs.places.is_named.Goals as goal

pub returns-in-Some : goal.returns-in-Some
returns-in-Some c said = named_there c.args.blocks.now c.args.place c.in-Some.block.now c.args.name.now (search rules) (search rules) (search rules)
