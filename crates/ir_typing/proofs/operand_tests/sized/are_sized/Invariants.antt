use Rattle.std.proofs.Common.{◌≡◌, drop}
use Rattle.ir_typing.specs.OperandTests.Kept.{are_named_sized}
use Rattle.ir_typing.proofs.operand_tests.sized.are_sized.Given as goal

abbrev pub invariant-loop-one : goal.invariant-loop-one
invariant-loop-one l = are_named_sized l.«module».types (drop l.one-index l.types) ≡ are_named_sized l.«module».types l.types
