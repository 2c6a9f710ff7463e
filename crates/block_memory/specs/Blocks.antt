-- What a store answers and leaves.
use Rattle.std.specs.Prelude.{◌≡◌, Option, None, Some, Result, IsErr, IsOk}
use Rattle.block_memory.specs.Memory.{Memory}

abbrev pub Stores : {E : Type 0} → Memory → Option Memory → Result (Unit {0}) E → Memory → Type 0
Stores old None answer new = IsErr answer × (new ≡ old)
Stores old (Some after) answer new = IsOk answer × (new ≡ after)
