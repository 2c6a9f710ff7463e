-- A text within the limit is cut, and no fault of it is the limit.
use Rattle.std.proofs.Common.{rules}
use Rattle.ir_lexer.proofs.cut.lex.Goals as goal

pub returns-else-text-gt-TEXT_LIMIT-clause-fault :
    goal.returns-else-text-gt-TEXT_LIMIT-clause-fault
returns-else-text-gt-TEXT_LIMIT-clause-fault c = search rules

pub returns-else-text-gt-TEXT_LIMIT-clause-limit :
    goal.returns-else-text-gt-TEXT_LIMIT-clause-limit
returns-else-text-gt-TEXT_LIMIT-clause-limit c = search rules
