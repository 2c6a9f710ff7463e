-- Words of private functions: the lines of blocks and functions.
use Rattle.std.specs.Prelude.{ℕ, ◌+◌, Bool, length, nat_le}
use Rattle.ir_core.specs.declared.functions.Block.{Block}
use Rattle.ir_core.specs.declared.functions.Function.{Function}
use Rattle.ir_core.specs.Functions.{line_count}
use Rattle.ir_core.specs.Limits.{line_limit}

abbrev pub lines_in : Block → ℕ
lines_in b = length b.phis + length b.body + 1

abbrev pub is_short : Function → Bool
is_short f = nat_le (line_count f) line_limit
