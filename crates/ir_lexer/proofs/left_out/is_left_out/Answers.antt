use Rattle.std.proofs.Common.{rules}
use Rattle.ir_lexer.proofs.left_out.is_left_out.Goals as goal

pub returns-in-Mark : goal.returns-in-Mark
returns-in-Mark c = search rules
