use Rattle.ir_values.proofs.ConstantValues.{constants_in_kind}
use Rattle.ir_values.proofs.pointer_laws.constants_are_of_their_kind.Goals as goal

pub returns : goal.returns
returns c = constants_in_kind
