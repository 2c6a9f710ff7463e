-- Each step is decided.
use Rattle.expression_reader.proofs.Judged.{judged_expression}
use Rattle.expression_reader.proofs.laws.each_expression_is_judged.Goals as goal

pub returns : goal.returns
returns c = judged_expression
