use Rattle.std.proofs.Common.{rules}
use Rattle.ir_lexer.proofs.bytes.is_in_line.Goals as goal

pub returns : goal.returns
returns c = search rules
