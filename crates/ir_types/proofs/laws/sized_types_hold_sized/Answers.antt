use Rattle.ir_types.proofs.Held.{held_types_are_sized, none_holds_itself}
use Rattle.ir_types.proofs.Unsized.{unsized_types_hold_one}
use Rattle.ir_types.proofs.laws.sized_types_hold_sized.Goals as goal

pub returns-clause-held : goal.returns-clause-held
returns-clause-held c = held_types_are_sized

pub returns-clause-itself : goal.returns-clause-itself
returns-clause-itself c = none_holds_itself

pub returns-clause-reason : goal.returns-clause-reason
returns-clause-reason c = unsized_types_hold_one
