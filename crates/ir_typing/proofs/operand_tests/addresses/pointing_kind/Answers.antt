use Rattle.std.proofs.Common.{rules}
use Rattle.ir_typing.proofs.OperandTests.Lent.{is_pointed}
use Rattle.ir_typing.proofs.operand_tests.addresses.pointing_kind.Goals as goal

pub returns : goal.returns
returns c = search (rules, is_pointed)
