-- What a text of a module spells, and nothing else.
use Rattle.std.specs.Prelude.{◌≡◌, ℕ, List}
use Rattle.ir_core.specs.declared.modules.Module.{Module}
use Rattle.module_spelling.specs.Spells.{Spells}
use Rattle.ir_reader.specs.Faults.{SpellsWellFormed}

-- The text spells this module, which is well-formed, and no other.
abbrev pub SpellsOnly : List ℕ → Module → Type 0
SpellsOnly text m = SpellsWellFormed text m × ((other : Module) → Spells text other → other ≡ m)

-- the text spells a module, and no other
abbrev pub SpellsOne : List ℕ → Type 0
SpellsOne text = (m : Module) × Spells text m × ((other : Module) → Spells text other → other ≡ m)
