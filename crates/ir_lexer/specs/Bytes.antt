-- The bytes of a text, by what they can be in it.
use Rattle.std.specs.Prelude.{ℕ, Bool, false, ◌||◌, ◌==◌, List, [], ◌∷◌, if◌then◌else◌, codes}
use Rattle.std.specs.List.{list_any, list_all}
use Rattle.std.specs.Char.{is_ascii_alphabetic, is_ascii_digit}
use Rattle.ir_core.specs.Names.{is_name_byte}
use Rattle.ir_lexer.specs.declared.bytes.Class.{Class}
use Rattle.ir_lexer.specs.declared.bytes.Class.TheVariants as class

-- space, tab, line feed, carriage return
abbrev pub is_blank : ℕ → Bool
is_blank b = b == 32 || b == 9 || b == 10 || b == 13

-- what is a token by itself
abbrev pub is_mark : ℕ → Bool
is_mark b = list_any (λ c. c == b) (codes "=,(){}[]*<>|")

-- a word begins with a letter, `_`, `.` or `$`
abbrev pub begins_word : ℕ → Bool
begins_word b = is_ascii_alphabetic b || b == 95 || b == 46 || b == 36

-- one or more decimal digits
abbrev pub are_digits : List ℕ → Bool
are_digits [] = false
are_digits (b ∷ bytes) = list_all is_ascii_digit (b ∷ bytes)

-- the text goes on with a colon
abbrev pub begins_with_colon : List ℕ → Bool
begins_with_colon [] = false
begins_with_colon (b ∷ rest) = b == 58

-- the text goes on with a quote
abbrev pub begins_with_quote : List ℕ → Bool
begins_with_quote [] = false
begins_with_quote (b ∷ rest) = b == 34

-- a letter, `_` or `$`
abbrev pub is_letter : ℕ → Bool
is_letter b = is_ascii_alphabetic b || b == 95 || b == 36

-- what a byte is at the front of a text
unfoldable pub class_of : ℕ → Class
class_of b =
    if is_blank b then class.Blank
    else (if b == 59 then class.Comment
    else (if b == 37 then class.Local
    else (if b == 64 then class.Global
    else (if b == 35 then class.Attribute
    else (if b == 33 then class.Metadata
    else (if b == 34 then class.Quote
    else (if is_letter b then class.Letter
    else (if is_name_byte b then class.Run
    else (if is_mark b then class.Mark
    else class.Other)))))))))
