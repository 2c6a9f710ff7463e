-- A text spells one expression.
use Rattle.expression_reader.proofs.Whole.{only_by}
use Rattle.expression_reader.proofs.readers.read_expr.Goals as goal
use Rattle.expression_reader.specs.Expressions.{SpellsExpression}

pub returns-clause-only : goal.returns-clause-only
returns-clause-only c =
    only_by (SpellsExpression c.args.text.now) c.expression_in.result (c.texts_spell_one_expression.ensures c.args.text.now) c.expression_in.ensures.spelled
