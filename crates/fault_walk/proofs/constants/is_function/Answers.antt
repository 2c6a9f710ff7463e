use Rattle.ir_typing.specs.OperandTests.Kept.{signature_of}
use Rattle.fault_walk.proofs.Calls.{is_called}
use Rattle.fault_walk.proofs.constants.is_function.Goals as goal

pub returns : goal.returns
returns c = cc (is_called signature_of c.args.sight.now c.args.name.now c.callee.result c.callee.ensures)
