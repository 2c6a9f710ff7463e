use Rattle.module_texts.proofs.JudgedTexts.Blocks.{blocks_are_told}
use Rattle.module_texts.proofs.judged_texts.spelled.examples_of_blocks.Goals as goal

pub returns : goal.returns
returns c = blocks_are_told
