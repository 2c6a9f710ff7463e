use Rattle.std.proofs.Common.{refl}
use Rattle.module_derivations.proofs.parser_tables.tables.starts.Goals as goal

pub returns : goal.returns
returns c = refl
