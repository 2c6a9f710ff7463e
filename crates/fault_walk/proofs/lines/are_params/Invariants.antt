use Rattle.std.proofs.Common.{◌≡◌, drop}
use Rattle.ir_types.specs.Same.{same_list, same_ty}
use Rattle.ir_typing.specs.OperandTests.Kept.{signature_of}
use Rattle.fault_walk.proofs.lines.are_params.Given as goal

-- the types that are left decide
abbrev pub invariant-loop-number : goal.invariant-loop-number
invariant-loop-number l =
    same_list same_ty (drop l.number (signature_of l.callee).params) (drop l.number l.types) ≡ same_list same_ty (signature_of l.callee).params l.types
