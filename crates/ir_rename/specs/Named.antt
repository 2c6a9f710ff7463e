-- A module in which each parameter, block and register has a text for a name.
use Rattle.std.specs.Prelude.{◌≡◌, ◌<◌, ℕ, zero, suc, if◌then◌else◌, List, [], ◌∷◌, ◌++◌, length, map, replicate, codes}
use Rattle.std.specs.Fmt.{decimal}
use Rattle.std.specs.List.{Contains}
use Rattle.ir_core.specs.declared.functions.Function.{Function}
use Rattle.ir_core.specs.declared.modules.Module.{Module}
use Rattle.ir_types.specs.declared.names.Name.{Name}
use Rattle.ir_types.specs.declared.names.Name.TheVariants.{Text, Number}
use Rattle.ir_core.specs.Functions.{names_of}
use Rattle.ir_core.specs.NameIndexes.Among.{is_among}
use Rattle.ir_rename.specs.Renamed.{rename_function}
use Rattle.ir_rename.specs.Numbered.{renaming}

-- ---- names that are free

-- with so many dots behind it: `v.3..` is `v.3` with two
abbrev pub dotted : List ℕ → ℕ → List ℕ
dotted text dots = text ++ replicate dots 46

-- It is the text with the fewest dots behind it that is none of the names that are taken.
pub record IsFresh (taken : List Name) (text free : List ℕ) : Type 0 where
  pub dots : ℕ
  pub is : free ≡ dotted text dots
  pub not_taken : Contains taken (Text free) → ⊥
  pub fewest : (fewer : ℕ) → fewer < dots → Contains taken (Text (dotted text fewer))

-- a dot is put behind it where it is taken, so often at most
abbrev pub free_in : ℕ → List Name → List ℕ → List ℕ
free_in zero taken text = text
free_in (suc tries) taken text = if is_among (Text text) taken then free_in tries taken (text ++ 46 ∷ []) else text

-- Where three names are taken, one of the text and it with one, two and three dots is free.
abbrev pub fresh : List Name → List ℕ → List ℕ
fresh taken text = free_in (length taken) taken text

-- ---- names of a function

-- `v.7` for 7
abbrev pub text_of : ℕ → List ℕ
text_of n = codes "v." ++ decimal n

-- A number becomes a text that is none of these names; a text stays.
abbrev pub named : List Name → Name → Name
named taken (Text bytes) = Text bytes
named taken (Number n) = Text (fresh taken (text_of n))

-- what is taken is what the function's own parameters, blocks and registers are called
abbrev pub named_function : Function → Function
named_function f = rename_function (renaming (names_of f) (map (named (names_of f)) (names_of f))) f

abbrev pub named_all : Module → Module
named_all m = record m { functions = map named_function m.functions }
