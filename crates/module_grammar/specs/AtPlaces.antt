-- Leaves of the examples, with the places from which and up to which they stand in the text.
use Rattle.std.specs.Prelude.{ℕ, Bool, true, false, List, codes}
use Rattle.ir_types.specs.declared.names.Name.{Name}
use Rattle.ir_types.specs.declared.names.Name.TheVariants as name
use Rattle.ir_lexer.specs.declared.token.Number.{Number}
use Rattle.module_grammar.specs.declared.constants.ConstText.{ConstText}
use Rattle.module_grammar.specs.declared.constants.ConstText as const
use Rattle.module_grammar.specs.declared.constants.IntText.{IntText}
use Rattle.module_grammar.specs.declared.constants.IntText.TheVariants as integer
use Rattle.module_grammar.specs.declared.places.Placed.{Placed}
use Rattle.module_grammar.specs.declared.types.TypeText.{TypeText}
use Rattle.module_grammar.specs.declared.types.TypeText as type_text

-- the width of `iN`
abbrev pub width_at : ℕ → ℕ → ℕ → Placed ℕ
width_at width start end = record { what = width; start = start; end = end }

abbrev pub number_at : ℕ → ℕ → ℕ → Placed Number
number_at n start end = record { what = record { negative = false; magnitude = n }; start = start; end = end }

abbrev pub true_at : ℕ → ℕ → Placed Bool
true_at start end = record { what = true; start = start; end = end }

-- `"x"`
abbrev pub bytes_at : ℕ → ℕ → Placed (List ℕ)
bytes_at start end = record { what = codes "x"; start = start; end = end }

-- `%x`, `@x` or `x:`
abbrev pub x_at : ℕ → ℕ → Placed Name
x_at start end = record { what = name.Text (codes "x"); start = start; end = end }

-- `@llvm.dbg.x`
abbrev pub debug_at : ℕ → ℕ → Placed Name
debug_at start end = record { what = name.Text (codes "llvm.dbg.x"); start = start; end = end }

abbrev pub i8_at : ℕ → ℕ → TypeText
i8_at start end = type_text.Int (width_at 8 start end)

abbrev pub i1_at : ℕ → ℕ → TypeText
i1_at start end = type_text.Int (width_at 1 start end)

abbrev pub int_at : ℕ → ℕ → ℕ → IntText
int_at n start end = integer.Number (number_at n start end)

abbrev pub const_at : ℕ → ℕ → ℕ → ConstText
const_at n start end = const.Int (int_at n start end)
