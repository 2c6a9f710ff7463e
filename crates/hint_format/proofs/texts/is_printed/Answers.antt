use Rattle.std.proofs.Common.{rules}
use Rattle.hint_format.proofs.texts.is_printed.Goals as goal

pub returns : goal.returns
returns c = search rules
