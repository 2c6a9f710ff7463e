-- The sinks of the system; and words of private functions: what reading a file takes from it, and how it ends.
use Rattle.std.specs.Prelude.{◌≡◌, ℕ, List, ◌++◌, length, Option, Result, Ok, Err}
use Rattle.std.specs.Io.KnownBytes.{Consumes}
use Rattle.crell_io.specs.Count.{raised_by}
use Rattle.crell_io.specs.declared.shelf.ShelfEnd.{ShelfEnd}
use Rattle.crell_io.specs.declared.shelf.ShelfEnd.TheVariants.{Failed, Absent, TooLong, Memory}

-- the bytes that a sink's writer holds, where it tells them, and the sink's count of faults
pub record HostSinkState : Type 0 where
  pub held : Option (List ℕ)
  pub faults : ℕ

-- a first part of what remained, where that is known, was taken, and stands after the bytes before
abbrev pub AppendsTaken : Option (List ℕ) → Option (List ℕ) → List ℕ → List ℕ → Type 0
AppendsTaken remaining after bytes more = (part : List ℕ) × Consumes remaining after part × (more ≡ bytes ++ part)

-- a first part of what remained, where that is known, was taken, and the count of bytes has risen by its length
abbrev pub TakesFirst : Option (List ℕ) → Option (List ℕ) → ℕ → ℕ → Type 0
TakesFirst remaining after taken more = (part : List ℕ) × Consumes remaining after part × (more ≡ raised_by (length part) taken)

-- a read failed, or memory was refused
abbrev pub IsReadFault : ShelfEnd → Type 0
IsReadFault Failed = Unit {0}
IsReadFault Absent = ⊥
IsReadFault TooLong = ⊥
IsReadFault Memory = Unit {0}

-- a count of faults after such an end: one more where a read failed
abbrev pub raised_at : ShelfEnd → ℕ → ℕ
raised_at Failed faults = raised_by 1 faults
raised_at Absent faults = faults
raised_at TooLong faults = faults
raised_at Memory faults = faults

-- a count of faults after such an answer
abbrev pub raised_where_failed : {A : Type 0} → Result A ShelfEnd → ℕ → ℕ
raised_where_failed (Ok bytes) faults = faults
raised_where_failed (Err end) faults = raised_at end faults
