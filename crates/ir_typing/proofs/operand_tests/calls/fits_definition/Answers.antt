use Rattle.std.proofs.Common.{rules}
use Rattle.ir_typing.proofs.operand_tests.calls.fits_definition.Goals as goal

pub returns-then-is_same_ty : goal.returns-then-is_same_ty
returns-then-is_same_ty c = search rules
