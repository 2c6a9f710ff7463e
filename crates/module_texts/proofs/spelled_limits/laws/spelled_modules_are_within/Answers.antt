use Rattle.module_texts.proofs.SpelledLimits.Within.{modules_are_within}
use Rattle.module_texts.proofs.spelled_limits.laws.spelled_modules_are_within.Goals as goal

pub returns : goal.returns
returns c = modules_are_within
