-- Words of private functions: marks, by which names are seen to differ.
use Rattle.std.specs.Prelude.{ℕ, ◌+◌, ◌-◌, ◌*◌, ◌%◌, List, length, Option, None, Some, slice_get}
use Rattle.ir_types.specs.declared.names.Name.{Name}
use Rattle.ir_types.specs.declared.names.Name.TheVariants as name

-- by the last byte, and how many there are
abbrev pub mark_by : Option ℕ → ℕ → ℕ
mark_by None count = 0
mark_by (Some last) count = last + 256 * (count % 65536)

abbrev pub mark_of_bytes : List ℕ → ℕ
mark_of_bytes bytes = mark_by (slice_get bytes (length bytes - 1)) (length bytes)

-- names that differ in their marks differ
abbrev pub mark_of : Name → ℕ
mark_of (name.Text bytes) = mark_of_bytes bytes
mark_of (name.Number n) = n
