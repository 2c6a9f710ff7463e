use Rattle.ir_values.proofs.Compared.{icmp_monotone}
use Rattle.ir_values.proofs.Monotone.{binary_monotone}
use Rattle.ir_values.proofs.kinds_kept.operations_are_monotone.Goals as goal

pub returns-clause-binary : goal.returns-clause-binary
returns-clause-binary c = binary_monotone

pub returns-clause-comparisons : goal.returns-clause-comparisons
returns-clause-comparisons c = icmp_monotone
