-- The bytes that names are made of (LangRef 3.7, Identifiers).
use Rattle.std.specs.Prelude.{ℕ, ◌==◌, ◌&&◌, ◌||◌, Bool, not, List, length, nat_lt, slice_index}
use Rattle.std.specs.List.{list_all}
use Rattle.std.specs.Char.{is_ascii_alphabetic, is_ascii_digit}

-- one of `A-Z a-z 0-9 - $ . _`
abbrev pub is_name_byte : ℕ → Bool
is_name_byte b = is_ascii_alphabetic b || is_ascii_digit b || b == 45 || b == 36 || b == 46 || b == 95

-- a text that a name may have without quotes: not empty, of the bytes of names, and with no digit first
abbrev pub is_plain : List ℕ → Bool
is_plain bytes = nat_lt 0 (length bytes) && not (is_ascii_digit (slice_index bytes 0)) && list_all is_name_byte bytes
