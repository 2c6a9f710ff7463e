-- Tokens are one, and so is the tree of them, which tells one type.
use Rattle.expression_reader.proofs.TypeWhole.{spell_one}
use Rattle.expression_reader.proofs.laws.texts_spell_one_type.Goals as goal

pub returns : goal.returns
returns c = spell_one c.written_once.ensures.types
