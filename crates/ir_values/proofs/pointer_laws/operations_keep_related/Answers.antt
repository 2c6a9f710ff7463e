use Rattle.ir_values.proofs.Compared.{icmp_related}
use Rattle.ir_values.proofs.Monotone.{binary_related}
use Rattle.ir_values.proofs.Moved.{gep_related}
use Rattle.ir_values.proofs.pointer_laws.operations_keep_related.Goals as goal

pub returns-clause-binary : goal.returns-clause-binary
returns-clause-binary c = binary_related

pub returns-clause-comparisons : goal.returns-clause-comparisons
returns-clause-comparisons c = icmp_related

pub returns-clause-addresses : goal.returns-clause-addresses
returns-clause-addresses c = gep_related
