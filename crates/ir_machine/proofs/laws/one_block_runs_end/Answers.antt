use Rattle.ir_machine.proofs.Ending.{one_block_runs_end}
use Rattle.ir_machine.proofs.laws.one_block_runs_end.Goals as goal

pub returns : goal.returns
returns c = one_block_runs_end
