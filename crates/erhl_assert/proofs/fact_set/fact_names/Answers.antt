use Rattle.std.proofs.Common.{rules}
use Rattle.erhl_assert.proofs.fact_set.fact_names.Goals as goal

pub returns-else-expr_names : goal.returns-else-expr_names
returns-else-expr_names c = search rules
