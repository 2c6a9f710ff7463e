use Rattle.std.proofs.Common.{rules}
use Rattle.ir_typing.proofs.operand_tests.calls.call_kind.Goals as goal

pub returns-in-None : goal.returns-in-None
returns-in-None c = search rules
