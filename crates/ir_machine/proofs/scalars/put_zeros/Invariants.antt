use Rattle.std.proofs.Common.{◌≡◌, ◌++◌, drop, map}
use Rattle.ir_machine.specs.declared.scalars.Scalar.{Scalar}
use Rattle.ir_machine.specs.Scalars.{zero_of}
use Rattle.ir_machine.proofs.scalars.put_zeros.Given as goal

abbrev pub invariant-loop-scalar : goal.invariant-loop-scalar
invariant-loop-scalar l =
    let zero = λ (s : Scalar). zero_of s.kind in l.values.items ++ map zero (drop l.scalar-index l.scalars) ≡ l.initial.values.items ++ map zero l.scalars
