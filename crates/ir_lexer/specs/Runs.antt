-- The longest fronts of a text whose bytes are of one sort.
use Rattle.std.specs.Prelude.{ℕ, Bool, not, ◌||◌, ◌==◌, List, length, Option, Some, None, nat_lt, if◌then◌else◌}
use Rattle.std.specs.List.{take_while}
use Rattle.std.specs.Char.{is_ascii_digit}
use Rattle.ir_core.specs.Names.{is_name_byte}
use Rattle.ir_lexer.specs.declared.runs.Front.{Front}
use Rattle.ir_lexer.specs.declared.runs.Front.TheVariants as front

-- neither a line feed nor a carriage return
abbrev pub is_in_line : ℕ → Bool
is_in_line b = not (b == 10 || b == 13)

abbrev pub is_no_quote : ℕ → Bool
is_no_quote b = not (b == 34)

-- the bytes of which each front is the longest that is made
abbrev pub belongs : Front → ℕ → Bool
belongs front.Digits b = is_ascii_digit b
belongs front.Line b = is_in_line b
belongs front.Quoted b = is_no_quote b

-- the longest run from here
unfoldable pub run_at : List ℕ → List ℕ
run_at text = take_while is_name_byte text

-- as many decimal digits as stand here
unfoldable pub digits_at : List ℕ → List ℕ
digits_at text = take_while is_ascii_digit text

-- the rest of the line
unfoldable pub rest_of_line : List ℕ → List ℕ
rest_of_line text = take_while is_in_line text

-- what stands before the next quote, if there is one
unfoldable pub quoted_at : List ℕ → Option (List ℕ)
quoted_at text =
    if nat_lt (length (take_while is_no_quote text)) (length text) then Some (take_while is_no_quote text) else None
