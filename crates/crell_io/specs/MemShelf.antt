-- A shelf in memory.
use Rattle.std.specs.Prelude.{ℕ, List, [], ◌∷◌, Bool, if◌then◌else◌, string_bytes}
use Rattle.std.specs.Str.{bytes_eq}
use Rattle.crell_io.specs.Count.{is_to_fail}
use Rattle.crell_io.specs.Shelf.{Told}
use Rattle.crell_io.specs.Shelf.Told.{NoSuch, Bytes}
use Rattle.crell_io.specs.declared.mem_shelf.Entry.{Entry}

-- names with the bytes under them, the numbers of the calls that are to fail (the first call is 0),
-- how many calls there were, and the two counts
pub record ShelfState : Type 0 where
  pub entries : List (List ℕ × List ℕ)
  pub failing : List ℕ
  pub calls : ℕ
  pub faults : ℕ
  pub taken : ℕ

-- an entry as its name and its bytes
abbrev pub entry_pair : Entry → List ℕ × List ℕ
entry_pair entry = (string_bytes entry.name, entry.bytes.items)

-- what is held under a name: the bytes of the first entry with it
abbrev pub held : List (List ℕ × List ℕ) → List ℕ → Told
held [] name = NoSuch
held (entry ∷ entries) name = if bytes_eq entry.0 name then Bytes entry.1 else held entries name

-- whether the next call is to fail
abbrev pub shelf_fails : ShelfState → Bool
shelf_fails shelf = is_to_fail shelf.failing shelf.calls
