-- The name after a sigil.
use Rattle.std.specs.Prelude.{ℕ, ◌+◌, ◌^◌, ◌==◌, List, [], ◌∷◌, length, Option, Some, None, if◌then◌else◌}
use Rattle.std.specs.Char.{is_ascii_digit}
use Rattle.ir_types.specs.declared.names.Name.{Name}
use Rattle.ir_types.specs.declared.names.Name.TheVariants.{Text, Number}
use Rattle.ir_lexer.specs.declared.names.NameSpan.{NameSpan}
use Rattle.ir_lexer.specs.declared.names.NameSpan.TheVariants as span
use Rattle.ir_core.specs.Names.{is_name_byte}
use Rattle.ir_lexer.specs.Numbers.{value_of, if_below}
use Rattle.ir_lexer.specs.Runs.{run_at, digits_at, quoted_at}
use Rattle.ir_lexer.specs.Strings.{unescaped}

-- what stands behind a sigil: a name and how many bytes spell it, a string that is empty or not closed, or nothing of both
pub data NameAt : Type 0 where
  Found : Name → ℕ → NameAt
  EmptyOrOpen : NameAt
  Missing : NameAt

-- a number below 2 to the 32, of len digits
abbrev pub numbered : Option ℕ → ℕ → NameAt
numbered None len = Missing
numbered (Some n) len = Found (Number n) len

-- a string that is closed and not empty
abbrev pub quoted_name : Option (List ℕ) → NameAt
quoted_name None = EmptyOrOpen
quoted_name (Some []) = EmptyOrOpen
quoted_name (Some (b ∷ raw)) = Found (Text (unescaped (b ∷ raw))) (length (b ∷ raw) + 2)

-- A name is as many digits as stand here, of a number below 2 to the 32; or a run that does not begin
-- with a digit; or a string that is not empty.
unfoldable pub name_at : List ℕ → NameAt
name_at [] = Missing
name_at (b ∷ rest) =
    if is_ascii_digit b then numbered (if_below (2 ^ 32) (value_of (digits_at (b ∷ rest)))) (length (digits_at (b ∷ rest)))
    else (if is_name_byte b then Found (Text (run_at (b ∷ rest))) (length (run_at (b ∷ rest)))
    else (if b == 34 then quoted_name (quoted_at rest)
    else Missing))

-- without what the name says
abbrev pub span_of : NameAt → NameSpan
span_of (Found name len) = span.Found len
span_of EmptyOrOpen = span.EmptyOrOpen
span_of Missing = span.Missing

-- how many bytes spell the name
abbrev pub span_len : NameSpan → ℕ
span_len (span.Found len) = len
span_len span.EmptyOrOpen = 0
span_len span.Missing = 0
