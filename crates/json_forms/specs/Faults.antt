-- Where a fault lies, as a JSON pointer.
use Rattle.std.specs.Prelude.{ℕ, ◌==◌, List, [], ◌∷◌, ◌++◌, codes, if◌then◌else◌}
use Rattle.std.specs.List.{flat_map}
use Rattle.std.specs.Fmt.{decimal}
use Rattle.json_forms.specs.declared.failure.Fault.{Fault}
use Rattle.json_forms.specs.declared.failure.Fault.TheVariants.{At, Past}

-- the value itself, whose path is empty
abbrev pub here : Fault
here = At []

-- `~` is written `~0`, and `/` is written `~1`
abbrev pub escaped : ℕ → List ℕ
escaped b = if b == 126 then codes "~0" else (if b == 47 then codes "~1" else b ∷ [])

-- the way to the member of that key: of `a/b` it is `/a~1b`
abbrev pub key_step : List ℕ → List ℕ
key_step key = 47 ∷ flat_map escaped key

-- the way to the item at that index: of 12 it is `/12`
abbrev pub index_step : ℕ → List ℕ
index_step i = 47 ∷ decimal i

-- A fault in what lies there, seen from outside: `/steps/0` in the member `b` is `/b/steps/0`. A limit has no place.
abbrev pub within : List ℕ → Fault → Fault
within step (At path) = At (step ++ path)
within step (Past limit) = Past limit
