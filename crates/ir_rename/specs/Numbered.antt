-- A module whose unnamed values are numbered in order of appearance (LangRef 3.7, Identifiers).
use Rattle.std.specs.Prelude.{ℕ, ◌+◌, ◌^◌, nat_lt, if◌then◌else◌, List, [], ◌∷◌, map}
use Rattle.ir_core.specs.declared.functions.Function.{Function}
use Rattle.ir_core.specs.declared.modules.Module.{Module}
use Rattle.ir_types.specs.declared.names.Name.{Name}
use Rattle.ir_types.specs.declared.names.Name.TheVariants.{Text, Number}
use Rattle.ir_types.specs.Same.{same_name}
use Rattle.ir_core.specs.Functions.{names_of}
use Rattle.ir_rename.specs.Renamed.{rename_function}

-- A name becomes the one in the second list that stands where it stands first in the first. One that isn't there stays.
abbrev pub renaming : List Name → List Name → Name → Name
renaming [] to name = name
renaming (x ∷ from) [] name = name
renaming (x ∷ from) (y ∷ to) name = if same_name name x then y else renaming from to name

-- no name is a number from 2 to the 32 on
abbrev pub number_due : ℕ → Name
number_due due = Number (if nat_lt due (2 ^ 32) then due else 0)

-- The names where this number is due: a number becomes the one that is due, and the next one is due behind it; a text stays, and takes none.
-- 7, `x`, 3 are 0, `x`, 1 from 0 on.
abbrev pub counted : ℕ → List Name → List Name
counted due [] = []
counted due (Text bytes ∷ names) = Text bytes ∷ counted due names
counted due (Number n ∷ names) = number_due due ∷ counted (due + 1) names

-- parameters, and of each block its name, its phis and its lines, have one count
abbrev pub numbered_function : Function → Function
numbered_function f = rename_function (renaming (names_of f) (counted 0 (names_of f))) f

abbrev pub numbered_in_order : Module → Module
numbered_in_order m = record m { functions = map numbered_function m.functions }
