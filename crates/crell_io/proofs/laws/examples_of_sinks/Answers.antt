use Rattle.std.proofs.Common.{refl, arith}
use Rattle.crell_io.proofs.laws.examples_of_sinks.Goals as goal

pub returns : goal.returns
returns c = record {
  sure = omega arith;
  not_sure = λ l. omega arith;
  part_sure = omega arith;
  part_not_sure = λ l. omega arith;
  full = refl;
  failing = λ l. omega arith;
  failing_later = λ l. omega arith;
}
