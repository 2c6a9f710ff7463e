use Rattle.std.proofs.Common.{rules}
use Rattle.rule_base.proofs.rule_book.answer_by.Goals as goal

pub returns-else-takes : goal.returns-else-takes
returns-else-takes g c = search rules
