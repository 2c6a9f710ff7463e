use Rattle.std.proofs.Common.{arith}
use Rattle.ir_types.proofs.Powers.{int_kept}
use Rattle.ir_types.proofs.layout.int_layout.Goals as goal

pub returns-clause-value : goal.returns-clause-value
returns-clause-value c =
    int_kept c.args.width c.next_power_of_two-size.result (omega arith) c.next_power_of_two-size.ensures.power (omega arith) (omega arith)
