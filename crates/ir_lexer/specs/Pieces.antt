-- What stands at the front of a text: a gap, a token, or a fault.
use Rattle.std.specs.Prelude.{ℕ, ◌+◌, ◌^◌, ◌==◌, ◌≤◌, Bool, true, false, ◌&&◌, List, [], ◌∷◌, length, drop, Option, Some, None, if◌then◌else◌, codes}
use Rattle.std.specs.Str.{bytes_eq}
use Rattle.ir_core.specs.Names.{is_name_byte}
use Rattle.ir_types.specs.declared.names.Name.{Name}
use Rattle.ir_types.specs.declared.names.Name.TheVariants as name
use Rattle.ir_lexer.specs.declared.names.NameSpan.{NameSpan}
use Rattle.ir_lexer.specs.declared.names.NameSpan.TheVariants as span
use Rattle.ir_lexer.specs.declared.pieces.Outline.{Outline}
use Rattle.ir_lexer.specs.declared.pieces.Outline.TheVariants as outline_is
use Rattle.ir_lexer.specs.declared.token.Kind.{Kind}
use Rattle.ir_lexer.specs.declared.token.Kind.TheVariants as alone
use Rattle.ir_lexer.specs.declared.token.TokenKind.{TokenKind}
use Rattle.ir_lexer.specs.declared.token.TokenKind.TheVariants as kind
use Rattle.ir_lexer.specs.Bytes.{is_blank, is_mark, begins_word, are_digits, begins_with_colon}
use Rattle.ir_lexer.specs.Names.{NameAt, name_at}
use Rattle.ir_lexer.specs.Names.NameAt.{Found, EmptyOrOpen, Missing}
use Rattle.ir_lexer.specs.Numbers.{value_of, if_below}
use Rattle.ir_lexer.specs.Runs.{run_at, digits_at, rest_of_line, quoted_at}
use Rattle.ir_lexer.specs.Strings.{unescaped}

-- What stands at the front of a text: nothing, a gap of so many bytes, a token and how many bytes spell it, a byte that begins nothing, a
-- string that is no token so many bytes from here, or a number that is none.
pub data Piece : Type 0 where
  End : Piece
  Gap : ℕ → Piece
  Token : TokenKind → ℕ → Piece
  BadByte : Piece
  BadString : ℕ → Piece
  BadNumber : Piece

-- `%` or `@` and a name. A string that is no name is a fault at its quote.
abbrev pub named : (Name → TokenKind) → NameAt → Piece
named kind (Found name len) = Token (kind name) (len + 1)
named kind EmptyOrOpen = BadString 1
named kind Missing = BadByte

-- `#` and its digits
abbrev pub attribute : List ℕ → Piece
attribute [] = BadByte
attribute (d ∷ digits) = Token (kind.Attribute (d ∷ digits)) (length (d ∷ digits) + 1)

-- `!` and the run behind it, if there is one
abbrev pub metadata : List ℕ → Piece
metadata [] = Token kind.Bang 1
metadata (b ∷ run) = Token (kind.Metadata (b ∷ run)) (length (b ∷ run) + 1)

-- what stood between two quotes, and the text behind them: a label, where a colon follows and it is not empty
unfoldable pub closed : List ℕ → List ℕ → Piece
closed [] after = Token (kind.Text []) 2
closed (b ∷ raw) after =
    if begins_with_colon after then Token (kind.Label (name.Text (unescaped (b ∷ raw)))) (length (b ∷ raw) + 3)
    else Token (kind.Text (unescaped (b ∷ raw))) (length (b ∷ raw) + 2)

-- a quote, the text behind it, and what stands there before the next quote
abbrev pub quoted : List ℕ → Option (List ℕ) → Piece
quoted text None = BadString 0
quoted text (Some raw) = closed raw (drop (length raw + 1) text)

abbrev pub numbered_block : Option ℕ → ℕ → Piece
numbered_block None len = BadNumber
numbered_block (Some n) len = Token (kind.Label (name.Number n)) (len + 1)

-- A run before a colon: digits alone are the number of a block, all else is its name.
unfoldable pub label : List ℕ → Piece
label run =
    if are_digits run then numbered_block (if_below (2 ^ 32) (value_of run)) (length run)
    else Token (kind.Label (name.Text run)) (length run + 1)

abbrev pub number : Bool → Option ℕ → ℕ → Piece
number negative None len = BadNumber
number negative (Some n) len = Token (kind.Number (record { negative = negative; magnitude = n })) len

-- A run before no colon: three dots, a number below 2 to the 128 with or without a sign, or a word.
unfoldable pub plain : List ℕ → Piece
plain [] = BadByte
plain (b ∷ run) =
    if bytes_eq (b ∷ run) (codes "...") then Token kind.Dots 3
    else (if are_digits (b ∷ run) then number false (if_below (2 ^ 128) (value_of (b ∷ run))) (length (b ∷ run))
    else (if b == 45 && are_digits run then number true (if_below (2 ^ 128) (value_of run)) (length (b ∷ run))
    else (if begins_word b then Token (kind.Word (b ∷ run)) (length (b ∷ run))
    else BadNumber)))

-- a run and the text behind it
abbrev pub run : List ℕ → List ℕ → Piece
run bytes after = if begins_with_colon after then label bytes else plain bytes

-- what stands at the front of a text
unfoldable pub piece : List ℕ → Piece
piece [] = End
piece (b ∷ rest) =
    if is_blank b then Gap 1
    else (if b == 59 then Gap (length (rest_of_line rest) + 1)
    else (if b == 37 then named kind.Local (name_at rest)
    else (if b == 64 then named kind.Global (name_at rest)
    else (if b == 35 then attribute (digits_at rest)
    else (if b == 33 then metadata (run_at rest)
    else (if b == 34 then quoted rest (quoted_at rest)
    else (if is_name_byte b then run (run_at (b ∷ rest)) (drop (length (run_at (b ∷ rest))) (b ∷ rest))
    else (if is_mark b then Token (kind.Mark b) 1
    else BadByte))))))))

-- how many bytes a gap or a token takes
abbrev pub piece_len : Piece → ℕ
piece_len (Gap len) = len
piece_len (Token kind len) = len
piece_len End = 0
piece_len BadByte = 0
piece_len (BadString offset) = 0
piece_len BadNumber = 0

-- ---- without what it says

-- of which kind a token is
abbrev pub kind_alone : TokenKind → Kind
kind_alone (kind.Local name) = alone.Local
kind_alone (kind.Global name) = alone.Global
kind_alone (kind.Attribute digits) = alone.Attribute
kind_alone kind.Bang = alone.Bang
kind_alone (kind.Metadata run) = alone.Metadata
kind_alone (kind.Label name) = alone.Label
kind_alone kind.Dots = alone.Dots
kind_alone (kind.Number number) = alone.Number
kind_alone (kind.Word word) = alone.Word
kind_alone (kind.Text text) = alone.Text
kind_alone (kind.Mark byte) = alone.Mark

abbrev pub outline : Piece → Outline
outline End = outline_is.End
outline (Gap len) = outline_is.Gap len
outline (Token kind len) = outline_is.Token (kind_alone kind) len
outline BadByte = outline_is.BadByte
outline (BadString offset) = outline_is.BadString offset
outline BadNumber = outline_is.BadNumber

-- a sigil, and what stands behind it
abbrev pub behind_sigil : Kind → NameSpan → Outline
behind_sigil kind (span.Found len) = outline_is.Token kind (len + 1)
behind_sigil kind span.EmptyOrOpen = outline_is.BadString 1
behind_sigil kind span.Missing = outline_is.BadByte

-- what stands behind a letter: a label, where a colon follows the run, else a word
abbrev pub lettered : List ℕ → Outline
lettered rest =
    if begins_with_colon (drop (length (run_at rest)) rest) then outline_is.Token alone.Label (length (run_at rest) + 2)
    else outline_is.Token alone.Word (length (run_at rest) + 1)

-- a number of either sign
abbrev pub number_outline : Option ℕ → ℕ → Outline
number_outline None len = outline_is.BadNumber
number_outline (Some n) len = outline_is.Token alone.Number len

-- a gap or a token takes at least one byte and at most `room`, and no fault stands behind them
abbrev pub IsWithin : Outline → ℕ → Type 0
IsWithin (outline_is.Gap len) room = (1 ≤ len) × (len ≤ room)
IsWithin (outline_is.Token kind len) room = (1 ≤ len) × (len ≤ room)
IsWithin outline_is.End room = Unit {0}
IsWithin outline_is.BadByte room = Unit {0}
IsWithin (outline_is.BadString offset) room = offset ≤ room
IsWithin outline_is.BadNumber room = Unit {0}
