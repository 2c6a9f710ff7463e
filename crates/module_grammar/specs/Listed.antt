-- Lists whose items are separated by commas.
use Rattle.std.specs.Prelude.{List, [], ◌∷◌, ◌++◌}
use Rattle.std.specs.List.{flat_map}
use Rattle.module_grammar.specs.Symbols.{Symbol, comma}

abbrev pub behind_comma : List Symbol → List Symbol
behind_comma item = comma ∷ item

-- each behind a comma: `, a, b`
abbrev pub further : List (List Symbol) → List Symbol
further items = flat_map behind_comma items

-- a comma between any two: `a, b`
abbrev pub listed : List (List Symbol) → List Symbol
listed [] = []
listed (item ∷ items) = item ++ further items
