use Rattle.ir_reader.proofs.ToldFaults.{told_as_text}
use Rattle.ir_reader.proofs.first_fault.spelled.Goals as goal

pub returns-in-Err-clause-fault : goal.returns-in-Err-clause-fault
returns-in-Err-clause-fault c = told_as_text c.args.text.now c.in-Err.fault c.of_text.result c.of_text.ensures c.in-Err.ensures.fault
