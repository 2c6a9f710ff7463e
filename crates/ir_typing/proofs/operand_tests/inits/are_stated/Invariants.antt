use Rattle.std.proofs.Common.{◌≡◌, drop, map}
use Rattle.ir_types.specs.Same.{same_list, same_ty}
use Rattle.ir_typing.specs.OperandTests.Starts.{stated}
use Rattle.ir_typing.proofs.operand_tests.inits.are_stated.Given as goal

-- the types and the parts that are left decide
abbrev pub invariant-loop-at : goal.invariant-loop-at
invariant-loop-at l = same_list same_ty (drop l.at l.types) (map stated (drop l.at l.parts)) ≡ same_list same_ty l.types (map stated l.parts)
