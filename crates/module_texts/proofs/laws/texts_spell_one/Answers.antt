-- Tokens are one, what they stand for is one, the tree of it is one, and it names one module.
use Rattle.module_texts.proofs.OneModule.{spell_one}
use Rattle.module_texts.proofs.laws.texts_spell_one.Goals as goal

pub returns : goal.returns
returns c = spell_one c.written_once.ensures.called c.written_once.ensures.declared c.named_trees_are_faultless.ensures c.written_once.ensures.modules
