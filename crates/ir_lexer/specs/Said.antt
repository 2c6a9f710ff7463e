-- What a token says, from its kind and the bytes that spell it; and questions that need no copy of it.
use Rattle.std.specs.Prelude.{ℕ, ◌-◌, ◌^◌, ◌==◌, Bool, true, false, List, [], ◌∷◌, length, take, drop, Option, Some, None, if◌then◌else◌}
use Rattle.std.specs.Str.{bytes_eq}
use Rattle.ir_types.specs.declared.names.Name.{Name}
use Rattle.ir_types.specs.declared.names.Name.TheVariants as name
use Rattle.ir_lexer.specs.declared.token.Kind.{Kind}
use Rattle.ir_lexer.specs.declared.token.Kind.TheVariants as alone
use Rattle.ir_lexer.specs.declared.token.Number.{Number}
use Rattle.ir_lexer.specs.declared.token.Token.{Token}
use Rattle.ir_lexer.specs.declared.token.TokenKind.{TokenKind}
use Rattle.ir_lexer.specs.declared.token.TokenKind.TheVariants as kind
use Rattle.ir_lexer.specs.Bytes.{are_digits, begins_with_quote}
use Rattle.ir_lexer.specs.Numbers.{value_of, if_below}
use Rattle.ir_lexer.specs.Strings.{unescaped}

-- no token has a number that is out of range; where one is, it counts as 0
abbrev pub or_zero : Option ℕ → ℕ
or_zero None = 0
or_zero (Some n) = n

-- without the first byte and the last: what stands between the quotes of a string
abbrev pub between : List ℕ → List ℕ
between bytes = take (length bytes - 2) (drop 1 bytes)

-- a name, without sigil or colon: a string, digits, or a run
unfoldable pub name_said : List ℕ → Name
name_said bytes =
    if begins_with_quote bytes then name.Text (unescaped (between bytes))
    else (if are_digits bytes then name.Number (or_zero (if_below (2 ^ 32) (value_of bytes)))
    else name.Text bytes)

abbrev pub signed : Bool → List ℕ → Number
signed negative digits = record { negative = negative; magnitude = or_zero (if_below (2 ^ 128) (value_of digits)) }

-- digits, or `-` and digits
unfoldable pub number_said : List ℕ → Number
number_said [] = signed false []
number_said (b ∷ rest) = if b == 45 then signed true rest else signed false (b ∷ rest)

abbrev pub mark_said : List ℕ → ℕ
mark_said [] = 0
mark_said (b ∷ rest) = b

-- A label ends with its colon: `5:` says the number 5, `"a b":` the text `a b`.
abbrev pub said : Kind → List ℕ → TokenKind
said alone.Local bytes = kind.Local (name_said (drop 1 bytes))
said alone.Global bytes = kind.Global (name_said (drop 1 bytes))
said alone.Attribute bytes = kind.Attribute (drop 1 bytes)
said alone.Bang bytes = kind.Bang
said alone.Metadata bytes = kind.Metadata (drop 1 bytes)
said alone.Label bytes = kind.Label (name_said (take (length bytes - 1) bytes))
said alone.Dots bytes = kind.Dots
said alone.Number bytes = kind.Number (number_said bytes)
said alone.Word bytes = kind.Word bytes
said alone.Text bytes = kind.Text (unescaped (between bytes))
said alone.Mark bytes = kind.Mark (mark_said bytes)

-- the bytes of a text that spell a token
abbrev pub bytes_of : List ℕ → Token → List ℕ
bytes_of text token = take (token.end - token.start) (drop token.start text)

-- what a token says in a text
abbrev pub said_in : List ℕ → Token → TokenKind
said_in text token = said token.kind (bytes_of text token)

-- ---- questions

-- the word that these bytes are
abbrev pub is_word : List ℕ → TokenKind → Bool
is_word bytes (kind.Word word) = bytes_eq word bytes
is_word bytes _ = false

-- the mark that it is, if it is one
abbrev pub mark_of : TokenKind → Option ℕ
mark_of (kind.Mark byte) = Some byte
mark_of _ = None
