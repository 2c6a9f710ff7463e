-- A text spells one type.
use Rattle.expression_reader.proofs.TypeWhole.{only_by}
use Rattle.expression_reader.proofs.readers.read_type.Goals as goal
use Rattle.expression_reader.specs.Types.{SpellsType}

pub returns-clause-only : goal.returns-clause-only
returns-clause-only c = only_by (SpellsType c.args.text.now) c.type_in.result (c.texts_spell_one_type.ensures c.args.text.now) c.type_in.ensures.spelled
