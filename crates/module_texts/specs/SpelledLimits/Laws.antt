-- The limits that a module keeps which a text of the whole grammar spells.
use Rattle.std.specs.Prelude.{ℕ, List}
use Rattle.ir_core.specs.declared.modules.Module.{Module}
use Rattle.ir_typing.specs.ModuleLimits.Passed.{IsWithin}
use Rattle.module_spelling.specs.Spells.{Spells}

-- It passes none: of depths, since no token of the text stands deeper; of lines; of blocks.
abbrev pub ModulesAreWithin : Type 0
ModulesAreWithin = (bytes : List ℕ) (m : Module) → Spells bytes m → IsWithin m
