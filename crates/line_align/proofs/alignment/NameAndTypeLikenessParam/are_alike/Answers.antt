use Rattle.std.proofs.Common.{rules}
use Rattle.line_align.proofs.alignment.NameAndTypeLikenessParam.are_alike.Goals as goal

pub returns-then-same_name : goal.returns-then-same_name
returns-then-same_name c = search rules

pub returns-else-same_name : goal.returns-else-same_name
returns-else-same_name c = search rules
