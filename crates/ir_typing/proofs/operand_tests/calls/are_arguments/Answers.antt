use Rattle.ir_typing.proofs.OperandTests.Arguments.{too_few}
use Rattle.ir_typing.proofs.operand_tests.calls.are_arguments.Goals as goal

pub returns-then-arguments-params : goal.returns-then-arguments-params
returns-then-arguments-params g c = too_few g.P.Typed.type_of c.args.variadic c.args.params.now c.args.arguments.now c.if-arguments-params.true
