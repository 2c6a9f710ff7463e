use Rattle.std.proofs.Common.{◌≡◌, ◌++◌, drop, map}
use Rattle.ir_machine.specs.declared.scalars.Scalar.{Scalar}
use Rattle.ir_machine.proofs.scalars.put_value.Given as goal

abbrev pub invariant-loop : goal.invariant-loop
invariant-loop l =
    let each = λ (s : Scalar). l.value in l.values.items ++ map each (drop l.index l.scalars) ≡ l.initial.values.items ++ map each l.scalars
