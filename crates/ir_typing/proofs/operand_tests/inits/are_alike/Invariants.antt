use Rattle.std.proofs.Common.{◌≡◌, drop}
use Rattle.ir_typing.specs.OperandTests.Starts.{are_alike}
use Rattle.ir_typing.proofs.operand_tests.inits.are_alike.Given as goal

-- the parts that are left decide
abbrev pub invariant-loop-part : goal.invariant-loop-part
invariant-loop-part l = are_alike l.ty (drop l.part-index l.parts) ≡ are_alike l.ty l.parts
