use Rattle.ir_machine.proofs.AtOnce.{addresses_give_these, lines_give_these}
use Rattle.ir_machine.proofs.laws.examples_of_outcomes.Goals as goal

pub returns-clause-lines : goal.returns-clause-lines
returns-clause-lines c = lines_give_these

pub returns-clause-addresses : goal.returns-clause-addresses
returns-clause-addresses c = addresses_give_these
