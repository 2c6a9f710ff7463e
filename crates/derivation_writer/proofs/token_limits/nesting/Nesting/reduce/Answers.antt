use Rattle.std.proofs.Common.{rules}
use Rattle.derivation_writer.proofs.token_limits.nesting.Nesting.reduce.Goals as goal

pub returns-in-Base : goal.returns-in-Base
returns-in-Base c = search rules
