-- Each step is decided.
use Rattle.expression_reader.proofs.TypeJudged.{judged_type}
use Rattle.expression_reader.proofs.laws.each_type_is_judged.Goals as goal

pub returns : goal.returns
returns c = judged_type
