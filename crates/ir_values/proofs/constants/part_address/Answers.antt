use Rattle.ir_values.proofs.ConstantWalks.{told_are_indices}
use Rattle.ir_values.proofs.constants.part_address.Goals as goal

pub address_of-requires-clause-indices : goal.address_of-requires-clause-indices
address_of-requires-clause-indices c = told_are_indices c.args.indices.now
