-- Laws of what is written.
use Rattle.std.specs.Prelude.{◌≡◌, List}
use Rattle.module_grammar.specs.Sorts.{Sort, Holds}
use Rattle.module_grammar.specs.Symbols.{Symbol}
use Rattle.module_grammar.specs.Texts.{IsWritten}

-- tokens are written of one tree
abbrev pub WritesOneTree : Sort → Type 0
WritesOneTree s = (a b : Holds s) (tokens : List Symbol) → IsWritten s a tokens → IsWritten s b tokens → a ≡ b
