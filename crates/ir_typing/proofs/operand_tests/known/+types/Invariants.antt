use Rattle.std.proofs.Common.{◌≡◌, drop}
use Rattle.ir_typing.specs.OperandTests.Known.{are_types_known}
use Rattle.ir_typing.proofs.operand_tests.known.+types.Given as goal

-- the types that are left decide
abbrev pub invariant-are_types_known-loop-ty : goal.invariant-are_types_known-loop-ty
invariant-are_types_known-loop-ty l = are_types_known l.beside (drop l.ty-index l.types) ≡ are_types_known l.beside l.types
