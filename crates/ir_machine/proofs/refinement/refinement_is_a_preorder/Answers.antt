use Rattle.ir_machine.proofs.Order.{refines_through}
use Rattle.ir_machine.proofs.refinement.refinement_is_a_preorder.Goals as goal

pub returns-clause-transitive : goal.returns-clause-transitive
returns-clause-transitive c = refines_through
