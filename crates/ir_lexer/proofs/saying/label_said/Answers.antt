-- The bytes of a label without its colon are those of its name.
use Rattle.std.proofs.Common.{rules}
use Rattle.ir_lexer.proofs.saying.label_said.Goals as goal

pub returns : goal.returns
returns c = search rules
