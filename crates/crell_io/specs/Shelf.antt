-- What a shelf tells of its contents.
use Rattle.std.specs.Prelude.{◌≡◌, ℕ, List}

-- what a shelf tells of a name: nothing, that it holds none such, or the bytes that it holds under it
pub data Told : Type 0 where
  Untold : Told
  NoSuch : Told
  Bytes : List ℕ → Told

-- it isn't told that there is no such name; and if contents are told, they are such
abbrev pub IfTold : Told → (List ℕ → Type 0) → Type 0
IfTold Untold P = Unit {0}
IfTold NoSuch P = ⊥
IfTold (Bytes held) P = P held

-- contents are told, and they are such
abbrev pub IsBytesAnd : Told → (List ℕ → Type 0) → Type 0
IsBytesAnd Untold P = ⊥
IsBytesAnd NoSuch P = ⊥
IsBytesAnd (Bytes held) P = P held

-- Of a shelf before and after: where no call of it fails, no fault was counted, and no call fails from now on.
abbrev pub StaysWell : {S : Type 0} → (S → Type 0) → (S → ℕ) → S → S → Type 0
StaysWell fails_nowhere faults old new = fails_nowhere old → fails_nowhere new × (faults new ≡ faults old)
