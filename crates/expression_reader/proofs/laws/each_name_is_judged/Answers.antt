-- Each step is decided.
use Rattle.expression_reader.proofs.NameTexts.{judged_name}
use Rattle.expression_reader.proofs.laws.each_name_is_judged.Goals as goal

pub returns : goal.returns
returns c = judged_name
