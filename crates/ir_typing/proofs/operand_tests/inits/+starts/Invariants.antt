use Rattle.std.proofs.Common.{◌≡◌, drop}
use Rattle.ir_typing.specs.ShapeKinds.Kinds.{least}
use Rattle.ir_typing.specs.OperandTests.Starts.{parts_kind}
use Rattle.ir_typing.proofs.OperandTests.Measures.{of_init, of_inits}
use Rattle.ir_typing.proofs.operand_tests.inits.+starts.Given as goal

abbrev pub decreases-init_kind : goal.decreases-init_kind
decreases-init_kind l = of_init l.init.now

abbrev pub decreases-parts_kind : goal.decreases-parts_kind
decreases-parts_kind l = of_inits l.parts.now

-- what is wrong so far, and in the parts that are left
abbrev pub invariant-parts_kind-loop-part : goal.invariant-parts_kind-loop-part
invariant-parts_kind-loop-part l = least l.kind (parts_kind l.beside (drop l.part-index l.parts)) ≡ parts_kind l.beside l.parts
