use Rattle.ir_values.proofs.InKind.{cast_in_kind, icmp_in_kind}
use Rattle.ir_values.proofs.kinds_kept.operations_stay_in_kind.Goals as goal

pub returns-clause-comparisons : goal.returns-clause-comparisons
returns-clause-comparisons c = icmp_in_kind

pub returns-clause-conversions : goal.returns-clause-conversions
returns-clause-conversions c = cast_in_kind
