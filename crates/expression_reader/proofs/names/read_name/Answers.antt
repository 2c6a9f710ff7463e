-- A text spells one name.
use Rattle.expression_reader.proofs.NameTexts.{only_by}
use Rattle.expression_reader.proofs.names.read_name.Goals as goal
use Rattle.expression_reader.specs.Names.{SpellsName}

pub returns-clause-only : goal.returns-clause-only
returns-clause-only c =
    only_by (SpellsName c.args.sigil c.args.text.now) c.name_of.result (c.texts_spell_one_name.ensures c.args.sigil c.args.text.now) c.name_of.ensures.spelled
