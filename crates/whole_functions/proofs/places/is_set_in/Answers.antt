use Rattle.std.proofs.Common.{rules}
use Rattle.whole_shapes.proofs.Sighted.{block_typed}
use Rattle.whole_functions.proofs.Placed.{closed_there}
use Rattle.whole_functions.proofs.places.is_set_in.Goals as goal

pub returns-in-Some-clause-typed : goal.returns-in-Some-clause-typed
returns-in-Some-clause-typed c said =
    block_typed c.args.blocks.now c.args.place c.in-Some.block.now (c.args.name.now, c.args.ty.now) (search rules) (search rules) (c.is_in_block.ensures said)

pub returns-in-Some-clause-closed : goal.returns-in-Some-clause-closed
returns-in-Some-clause-closed c said =
    closed_there c.args.blocks.now c.args.place c.in-Some.block.now c.args.name.now c.args.ty.now (search rules) (search rules) (c.is_in_block.ensures said)
