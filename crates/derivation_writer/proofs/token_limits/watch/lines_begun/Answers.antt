use Rattle.std.proofs.Common.{rules}
use Rattle.derivation_writer.proofs.token_limits.watch.lines_begun.Goals as goal

pub returns-in-Line : goal.returns-in-Line
returns-in-Line c = search rules
