-- What stands between two quotes: `\\` is one backslash, `\` and two hexadecimal digits are a byte,
-- and each other byte is itself. It is read from the left.
use Rattle.std.specs.Prelude.{ℕ, suc, zero, ◌+◌, ◌-◌, ◌*◌, Bool, ◌&&◌, ◌==◌, List, [], ◌∷◌, nat_le, if◌then◌else◌}
use Rattle.std.specs.Char.{is_ascii_digit, is_ascii_hexdigit}
use Rattle.ir_lexer.specs.declared.strings.Symbol.{Symbol}

-- one of `0-9 A-F a-f`
abbrev pub is_hex : ℕ → Bool
is_hex b = is_ascii_hexdigit b

abbrev pub hex_value : ℕ → ℕ
hex_value b = if is_ascii_digit b then b - 48 else (if nat_le 97 b then b - 87 else b - 55)

-- a byte, and how many bytes spell it
abbrev pub spelled : ℕ → ℕ → Symbol
spelled byte len = record { byte = byte; len = len }

-- the first byte that a string means, b being its first and rest the further ones
unfoldable pub symbol : ℕ → List ℕ → Symbol
symbol b [] = spelled b 1
symbol b (c ∷ []) = if b == 92 && c == 92 then spelled 92 2 else spelled b 1
symbol b (c ∷ d ∷ rest) =
    if b == 92 && c == 92 then spelled 92 2
    else (if b == 92 && is_hex c && is_hex d then spelled (hex_value c * 16 + hex_value d) 3
    else spelled b 1)

-- what the bytes mean, where the first `skip` of them belong to what came before
unfoldable pub unescaped_after : ℕ → List ℕ → List ℕ
unescaped_after skip [] = []
unescaped_after zero (b ∷ rest) = (symbol b rest).byte ∷ unescaped_after ((symbol b rest).len - 1) rest
unescaped_after (suc skip) (b ∷ rest) = unescaped_after skip rest

abbrev pub unescaped : List ℕ → List ℕ
unescaped raw = unescaped_after 0 raw
