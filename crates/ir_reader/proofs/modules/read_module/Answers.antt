-- A text spells one module.
use Rattle.module_spelling.specs.Spells.{Spells}
use Rattle.ir_reader.proofs.Whole.{only_by}
use Rattle.ir_reader.proofs.modules.read_module.Goals as goal

pub returns-clause-only : goal.returns-clause-only
returns-clause-only c = only_by (Spells c.args.text.now) c.module_in.result (c.texts_spell_one.ensures c.args.text.now) c.module_in.ensures.spelled
