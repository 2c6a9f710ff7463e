-- What a module is that a text of the whole grammar spells.
use Rattle.std.specs.Prelude.{ℕ, List}
use Rattle.ir_core.specs.declared.modules.Module.{Module}
use Rattle.ir_core.specs.Ranges.{AreBytes, IsInRange}
use Rattle.module_spelling.specs.Spells.{Spells}

-- its names, types, constants, alignments and lines are in range, since the text is made of bytes
abbrev pub ModulesAreInRange : Type 0
ModulesAreInRange = (bytes : List ℕ) (m : Module) → AreBytes bytes → Spells bytes m → IsInRange m
