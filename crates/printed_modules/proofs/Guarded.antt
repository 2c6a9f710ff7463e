-- Rows of tokens in which each `void` before an opening parenthesis states the types of a function that is called, within the limit on depths: such
-- tokens stand for themselves.
use Rattle.std.specs.Prelude.{◌≡◌, List, [], ◌∷◌, ◌++◌}
use Rattle.std.specs.List.{AllByRecursion}
use Rattle.ir_types.specs.declared.names.Name.{Name}
use Rattle.module_grammar.specs.declared.places.Placed.{Placed}
use Rattle.module_grammar.specs.Sorts.{Called}
use Rattle.module_grammar.specs.Symbols.{Global, Symbol, close_paren, kind_of, open_paren, unnamed_addr, void}
use Rattle.module_spelling.specs.Context.{IsWhole, called_number}

-- what stands behind a `void`: where a parenthesis opens, types, the parenthesis that closes, and the name of what is called
abbrev pub StatesBehind : List Symbol → Type 0
StatesBehind behind =
    (inside : List Symbol) → behind ≡ open_paren ∷ inside
    → (types : List Symbol) × (x : Placed Name) × (more : List Symbol) × (inside ≡ types ++ (close_paren ∷ Global x ∷ more)) × IsWhole Called called_number types

abbrev pub IsGuarded : List Symbol → Type 0
IsGuarded [] = Unit {0}
IsGuarded (s ∷ ss) = (s ≡ void → StatesBehind ss) × IsGuarded ss

-- `unnamed_addr` isn't printed
abbrev pub HasNoAddr : List Symbol → Type 0
HasNoAddr = AllByRecursion (λ s. kind_of s ≡ kind_of unnamed_addr → ⊥)
