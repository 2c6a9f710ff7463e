-- Words and numbers: runs that no byte of a run and no colon follows.
use Rattle.std.proofs.Common.{◌≡◌, ℕ, ◌^◌, ◌<◌, Bool, true, false, ◌||◌, List, [], ◌∷◌, ◌++◌, length, drop, codes, arith, refl, ap, ◌∙◌, lt-ltb}
use Rattle.std.specs.Prelude.{◌==◌}
use Rattle.std.specs.List.{list_all}
use Rattle.std.specs.Char.{is_ascii_digit}
use Rattle.std.specs.Str.{bytes_eq}
use Rattle.std.proofs.lemmas.Bool.{and_parts, and_from, and_left, or_parts, not-true, not_from_false, cond-true, cond-false}
use Rattle.std.proofs.lemmas.Bool.Decides.{nat_tests}
use Rattle.std.proofs.Math.Seq.{drop-append_seam}
use Rattle.ir_core.specs.Names.{is_name_byte}
use Rattle.ir_lexer.specs.declared.token.TokenKind.{TokenKind}
use Rattle.ir_lexer.specs.declared.token.TokenKind.TheVariants as kind
use Rattle.ir_lexer.specs.Bytes.{is_blank, are_digits, begins_with_colon}
use Rattle.ir_lexer.specs.Numbers.{value_of, if_below}
use Rattle.ir_lexer.specs.Pieces.{number, piece, plain, run}
use Rattle.ir_lexer.specs.Pieces.Piece.{Token}
use Rattle.ir_lexer.specs.Runs.{run_at}
use Rattle.printed_tokens.proofs.Decimals.{IsDecimal}
use Rattle.printed_tokens.proofs.Lexed.{Lexes, begun, stops, taken}
use Rattle.printed_tokens.proofs.TokenWords.{Seen, alone, is_text}

-- what ends no word and no number
abbrev pub goes_on : ℕ → Bool
goes_on b = is_name_byte b || b == 58

pub run_stops : (rest : List ℕ) → stops goes_on rest ≡ true → stops is_name_byte rest ≡ true
run_stops [] stop = refl
run_stops (b ∷ rest) stop = not_from_false (is_name_byte b) (or_parts (is_name_byte b) (b == 58) (not-true (goes_on b) stop)).0

pub no_colon : (rest : List ℕ) → stops goes_on rest ≡ true → begins_with_colon rest ≡ false
no_colon [] stop = refl
no_colon (b ∷ rest) stop = (or_parts (is_name_byte b) (b == 58) (not-true (goes_on b) stop)).1

-- ---- a byte of a run begins nothing else

abbrev begins_other : ℕ → Bool
begins_other b = is_blank b || b == 59 || b == 37 || b == 64 || b == 35 || b == 33 || b == 34

begins_run : (b : ℕ) → is_name_byte b ≡ true → begins_other b ≡ false
begins_run b is = grind (arith, nat_tests)

-- a run, and what stands behind it
pub run_front : (b : ℕ) (bs rest : List ℕ) → list_all is_name_byte (b ∷ bs) ≡ true → stops is_name_byte rest ≡ true → piece ((b ∷ bs) ++ rest) ≡ run (b ∷ bs) rest
unfolding piece run_at
run_front b bs rest all stop =
    let first = (and_parts (is_name_byte b) (list_all is_name_byte bs) all).0 in
    let to_quote = or_parts _ (b == 34) (begins_run b first) in
    let to_bang = or_parts _ (b == 33) to_quote.0 in
    let to_hash = or_parts _ (b == 35) to_bang.0 in
    let to_at = or_parts _ (b == 64) to_hash.0 in
    let to_percent = or_parts _ (b == 37) to_at.0 in
    let to_comment = or_parts (is_blank b) (b == 59) to_percent.0 in
    cond-false (is_blank b) _ _ to_comment.0
    ∙ cond-false (b == 59) _ _ to_comment.1
    ∙ cond-false (b == 37) _ _ to_percent.1
    ∙ cond-false (b == 64) _ _ to_at.1
    ∙ cond-false (b == 35) _ _ to_hash.1
    ∙ cond-false (b == 33) _ _ to_bang.1
    ∙ cond-false (b == 34) _ _ to_quote.1
    ∙ cond-true (is_name_byte b) _ _ first
    ∙ ap (λ bytes. run bytes (drop (length bytes) (b ∷ (bs ++ rest)))) (taken is_name_byte (b ∷ bs) rest all stop)
    ∙ ap (λ after. run (b ∷ bs) after) (drop-append_seam (b ∷ bs) rest)

pub run_piece : (b : ℕ) (bs rest : List ℕ) → list_all is_name_byte (b ∷ bs) ≡ true → stops goes_on rest ≡ true → piece ((b ∷ bs) ++ rest) ≡ plain (b ∷ bs)
run_piece b bs rest all stop = run_front b bs rest all (run_stops rest stop) ∙ cond-false _ _ _ (no_colon rest stop)

pub one_run : (b : ℕ) (bs rest : List ℕ) (k : TokenKind) (seen : List Seen) → is_text k ≡ false → list_all is_name_byte (b ∷ bs) ≡ true → plain (b ∷ bs) ≡ Token k (length (b ∷ bs)) → stops goes_on rest ≡ true → Lexes rest seen → Lexes ((b ∷ bs) ++ rest) (alone k ∷ seen)
one_run b bs rest k seen none all is stop lexes = begun (b ∷ bs) rest k seen none (run_piece b bs rest all stop ∙ is) (omega arith) lexes

-- ---- numbers

digit_in_name : (b : ℕ) → is_ascii_digit b ≡ true → is_name_byte b ≡ true
digit_in_name b is = grind (arith, nat_tests)

pub digits_in_name : (digits : List ℕ) → list_all is_ascii_digit digits ≡ true → list_all is_name_byte digits ≡ true
digits_in_name [] all = refl
digits_in_name (d ∷ ds) all =
    let parts = and_parts (is_ascii_digit d) (list_all is_ascii_digit ds) all in
    and_from (is_name_byte d) (list_all is_name_byte ds) (digit_in_name d parts.0) (digits_in_name ds parts.1)

no_dot : (d : ℕ) → is_ascii_digit d ≡ true → (d == 46) ≡ false
no_dot d is = grind (arith, nat_tests)

abbrev written : Bool → ℕ → TokenKind
written negative n = kind.Number (record { negative = negative; magnitude = n })

number_is : (negative : Bool) (n len : ℕ) (digits : List ℕ) → value_of digits ≡ n → n < 2 ^ 128 → number negative (if_below (2 ^ 128) (value_of digits)) len ≡ Token (written negative n) len
number_is negative n len digits value small =
    ap (λ m. number negative (if_below (2 ^ 128) m) len) value
    ∙ ap (λ o. number negative o len) (cond-true _ _ _ (lt-ltb n (2 ^ 128) small))

positive_is : (d : ℕ) (ds : List ℕ) (n : ℕ) → list_all is_ascii_digit (d ∷ ds) ≡ true → value_of (d ∷ ds) ≡ n → n < 2 ^ 128 → plain (d ∷ ds) ≡ Token (written false n) (length (d ∷ ds))
unfolding plain
positive_is d ds n all value small =
    let first = (and_parts (is_ascii_digit d) (list_all is_ascii_digit ds) all).0 in
    cond-false (bytes_eq (d ∷ ds) (codes "...")) _ _ (and_left (d == 46) _ (no_dot d first))
    ∙ cond-true (are_digits (d ∷ ds)) _ _ all
    ∙ number_is false n (length (d ∷ ds)) (d ∷ ds) value small

negative_is : (d : ℕ) (ds : List ℕ) (n : ℕ) → list_all is_ascii_digit (d ∷ ds) ≡ true → value_of (d ∷ ds) ≡ n → n < 2 ^ 128 → plain (45 ∷ d ∷ ds) ≡ Token (written true n) (length (45 ∷ d ∷ ds))
unfolding plain
negative_is d ds n all value small =
    cond-true (are_digits (d ∷ ds)) _ _ all
    ∙ number_is true n (length (45 ∷ d ∷ ds)) (d ∷ ds) value small

pub positive : (n : ℕ) (digits rest : List ℕ) (seen : List Seen) → IsDecimal n digits → n < 2 ^ 128 → stops goes_on rest ≡ true → Lexes rest seen → Lexes (digits ++ rest) (alone (written false n) ∷ seen)
positive n [] rest seen is small stop lexes = absurd (omega (arith, is.some))
positive n (d ∷ ds) rest seen is small stop lexes =
    one_run d ds rest (written false n) seen refl (digits_in_name (d ∷ ds) is.all) (positive_is d ds n is.all is.value small) stop lexes

pub negative : (n : ℕ) (digits rest : List ℕ) (seen : List Seen) → IsDecimal n digits → n < 2 ^ 128 → stops goes_on rest ≡ true → Lexes rest seen → Lexes (45 ∷ (digits ++ rest)) (alone (written true n) ∷ seen)
negative n [] rest seen is small stop lexes = absurd (omega (arith, is.some))
negative n (d ∷ ds) rest seen is small stop lexes =
    one_run 45 (d ∷ ds) rest (written true n) seen refl (digits_in_name (d ∷ ds) is.all) (negative_is d ds n is.all is.value small) stop lexes
