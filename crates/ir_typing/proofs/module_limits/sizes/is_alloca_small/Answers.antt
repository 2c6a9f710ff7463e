use Rattle.std.proofs.Common.{rules}
use Rattle.ir_typing.proofs.module_limits.sizes.is_alloca_small.Goals as goal

pub returns-else-not-is_integer : goal.returns-else-not-is_integer
returns-else-not-is_integer c = search rules
