use Rattle.std.proofs.Common.{rules}
use Rattle.derivation_writer.proofs.token_limits.watch.lines_reduced.Goals as goal

pub returns-in-Definition : goal.returns-in-Definition
returns-in-Definition c = search rules
