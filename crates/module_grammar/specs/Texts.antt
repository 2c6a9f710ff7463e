-- What tokens are written of: they are what a tree is written as, where `balanced` stands for any tokens that are balanced.
use Rattle.std.specs.Prelude.{Bool, nat_eq, List}
use Rattle.predictive.specs.Fills.{Fills}
use Rattle.module_grammar.specs.Balanced.{IsBalanced}
use Rattle.module_grammar.specs.Sorts.{Sort, Holds, written}
use Rattle.module_grammar.specs.Symbols.{Symbol, balanced, kind_of}

abbrev pub is_balanced : Symbol → Bool
is_balanced s = nat_eq (kind_of s) (kind_of balanced)

-- The tokens of `!7 = !{i8 7}` and those of `!7 = !{}` are written of one tree.
abbrev pub IsWritten : (s : Sort) → Holds s → List Symbol → Type 0
IsWritten s tree tokens = Fills is_balanced IsBalanced (written s tree) tokens
