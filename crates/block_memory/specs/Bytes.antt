-- The bytes of a value, and the value of bytes: the first case that fits.
use Rattle.std.specs.Prelude.{◌+◌, ◌*◌, ◌/◌, ◌%◌, ◌^◌, ◌<◌, ◌≤◌, ℕ, ℤ, zero, suc, Bool, true, false, ◌&&◌, cond, nat_eq, nat_lt, List, [], ◌∷◌, Option, None, Some}
use Rattle.std.specs.List.{list_any}
use Rattle.std.specs.Ordering.{int_eq}
use Rattle.ir_core.specs.declared.values.Value.{Value}
use Rattle.ir_core.specs.declared.values.Value.TheVariants as value
use Rattle.ir_core.specs.declared.values.Byte.{Byte}
use Rattle.ir_core.specs.declared.values.Byte.TheVariants as byte
use Rattle.ir_core.specs.declared.values.Kind.{Kind}
use Rattle.ir_core.specs.declared.values.Kind.TheVariants as kind
use Rattle.ir_values.specs.Values.{IsOffset}

-- how many bytes a value of the kind has
abbrev pub byte_count : Kind → ℕ
byte_count (kind.Int width) = (width + 7) / 8
byte_count kind.Ptr = 8

-- the byte of a number at a place, the least at 0
abbrev pub number_byte : ℕ → ℕ → ℕ
number_byte n place = n / 2 ^ (8 * place) % 256

-- the byte of a value at a place
abbrev pub byte_at : Value → ℕ → Byte
byte_at (value.Num n) place = byte.Num (number_byte n place)
byte_at (value.Ptr block offset) place = byte.Frag block offset place
byte_at (value.Bare address) place = byte.Num (number_byte address place)
byte_at value.Undef place = byte.Undef
byte_at value.Poison place = byte.Poison

-- so many bytes of a value, from a place on
abbrev pub bytes_from : Value → ℕ → ℕ → List Byte
bytes_from v place zero = []
bytes_from v place (suc count) = byte_at v place ∷ bytes_from v (suc place) count

abbrev pub bytes_of : ℕ → Value → List Byte
bytes_of count v = bytes_from v 0 count

abbrev pub is_poison_byte : Byte → Bool
is_poison_byte byte.Poison = true
is_poison_byte byte.Undef = false
is_poison_byte (byte.Num n) = false
is_poison_byte (byte.Frag block offset place) = false

abbrev pub is_undef_byte : Byte → Bool
is_undef_byte byte.Undef = true
is_undef_byte byte.Poison = false
is_undef_byte (byte.Num n) = false
is_undef_byte (byte.Frag block offset place) = false

abbrev pub with_low : ℕ → Option ℕ → Option ℕ
with_low low None = None
with_low low (Some high) = Some (low + 256 * high)

-- the number that the bytes spell, the least byte first, where each is a number
abbrev pub number_of : List Byte → Option ℕ
number_of [] = Some 0
number_of (byte.Num n ∷ bytes) = with_low n (number_of bytes)
number_of (byte.Frag block offset place ∷ bytes) = None
number_of (byte.Undef ∷ bytes) = None
number_of (byte.Poison ∷ bytes) = None

abbrev pub is_fragment : ℕ → ℤ → ℕ → Byte → Bool
is_fragment block offset place (byte.Frag b o p) = nat_eq b block && (int_eq o offset && nat_eq p place)
is_fragment block offset place (byte.Num n) = false
is_fragment block offset place byte.Undef = false
is_fragment block offset place byte.Poison = false

-- the bytes are the fragments of one pointer, in order from a place on
abbrev pub are_fragments : ℕ → ℤ → ℕ → List Byte → Bool
are_fragments block offset place [] = true
are_fragments block offset place (x ∷ bytes) = is_fragment block offset place x && are_fragments block offset (suc place) bytes

-- the pointer whose fragments the bytes are, from the first on
abbrev pub pointer_of : List Byte → Value
pointer_of [] = value.Undef
pointer_of (byte.Frag block offset place ∷ bytes) =
    cond (are_fragments block offset 0 (byte.Frag block offset place ∷ bytes)) (value.Ptr block offset) value.Undef
pointer_of (byte.Num n ∷ bytes) = value.Undef
pointer_of (byte.Undef ∷ bytes) = value.Undef
pointer_of (byte.Poison ∷ bytes) = value.Undef

-- a number of the width, or undef where a bit above the width is set
abbrev pub number_within : ℕ → ℕ → Value
number_within width n = cond (nat_lt n (2 ^ width)) (value.Num n) value.Undef

-- of bytes that are neither undef nor poison, and of the number that they spell
abbrev pub defined_value : Kind → List Byte → Option ℕ → Value
defined_value (kind.Int width) bytes (Some n) = number_within width n
defined_value (kind.Int width) bytes None = value.Undef
defined_value kind.Ptr bytes (Some n) = value.Bare n
defined_value kind.Ptr bytes None = pointer_of bytes

abbrev pub value_of : Kind → List Byte → Value
value_of k bytes =
    cond (list_any is_poison_byte bytes) value.Poison (cond (list_any is_undef_byte bytes) value.Undef (defined_value k bytes (number_of bytes)))

-- a number of a byte is below 256, and the pointer of which it is a part has an offset in range
abbrev pub IsByte : Byte → Type 0
IsByte (byte.Num n) = n < 256
IsByte (byte.Frag block offset place) = IsOffset offset
IsByte byte.Undef = Unit {0}
IsByte byte.Poison = Unit {0}

-- the offset of a pointer is in range
abbrev pub IsRanged : Value → Type 0
IsRanged (value.Ptr block offset) = IsOffset offset
IsRanged (value.Num n) = Unit {0}
IsRanged (value.Bare address) = Unit {0}
IsRanged value.Undef = Unit {0}
IsRanged value.Poison = Unit {0}

-- a value of the kind has a byte
abbrev pub IsWide : Kind → Type 0
IsWide (kind.Int width) = 1 ≤ width
IsWide kind.Ptr = Unit {0}
