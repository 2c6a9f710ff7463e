use Rattle.module_texts.proofs.SpelledLimits.ModuleRanges.{modules_are_in_range}
use Rattle.module_texts.proofs.spelled_limits.ranges.spelled_modules_are_in_range.Goals as goal

pub returns : goal.returns
returns c = modules_are_in_range
