use Rattle.ir_machine.proofs.CallRefining.{calls_are_told_apart, undef_is_any_argument}
use Rattle.ir_machine.proofs.call_laws.refinement_sees_calls.Goals as goal

pub returns-clause-apart : goal.returns-clause-apart
returns-clause-apart c = calls_are_told_apart

pub returns-clause-undef : goal.returns-clause-undef
returns-clause-undef c = undef_is_any_argument
