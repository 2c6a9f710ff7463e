-- Numbers give numbers.
use Rattle.std.proofs.Common.{refl}
use Rattle.ir_values.specs.ValueLaws.{ComparisonsGiveNumbers, ConversionsGiveNumbers, OperationsGiveNumbers, SelectionsGiveTheChosen}

pub binary_defined : OperationsGiveNumbers
binary_defined op flags width m n p q r = rw (p, q, r) tt

pub icmp_defined : ComparisonsGiveNumbers
icmp_defined pred width m n size other = tt

pub cast_defined : ConversionsGiveNumbers
cast_defined op from to n = tt

pub select_defined : SelectionsGiveTheChosen
select_defined a b = (refl, refl)
