use Rattle.std.proofs.Common.{rules}
use Rattle.ir_typing.proofs.ModuleLimits.Within.{fields_within}
use Rattle.ir_typing.proofs.module_limits.depths.is_named_shallow.Goals as goal

pub returns-in-Some : goal.returns-in-Some
returns-in-Some c = search (rules, fields_within)
