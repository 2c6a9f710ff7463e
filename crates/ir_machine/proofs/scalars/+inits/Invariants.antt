use Rattle.std.proofs.Common.{◌≡◌, ◌++◌, drop}
use Rattle.ir_typing.proofs.OperandTests.Measures.{of_init, of_inits}
use Rattle.ir_values.specs.Constants.{scope_of}
use Rattle.ir_machine.specs.Walks.{values_in}
use Rattle.ir_machine.proofs.scalars.+inits.Given as goal

abbrev pub decreases-put_init : goal.decreases-put_init
decreases-put_init l = of_init l.init.now

abbrev pub decreases-put_parts : goal.decreases-put_parts
decreases-put_parts l = of_inits l.parts.now

abbrev pub invariant-put_parts-loop-part : goal.invariant-put_parts-loop-part
invariant-put_parts-loop-part l =
    let values = values_in (scope_of l.«module») in l.values.items ++ values (drop l.part-index l.parts) ≡ l.initial.values.items ++ values l.parts
