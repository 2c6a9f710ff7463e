-- The names and strings in the tokens of a text of bytes are in range.
use Rattle.std.proofs.Common.{◌≡◌, ℕ, suc, zero, ◌+◌, ◌-◌, ◌*◌, ◌^◌, ◌<◌, Bool, true, false, cond, List, [], ◌∷◌, length, drop, codes, Option, Some, None, Ok, Err, refl, ap, sym, ◌∙◌, subst, arith, ltb-true}
use Rattle.std.specs.Prelude.{◌==◌, ◌&&◌, nat_lt, slice_index}
use Rattle.std.specs.List.{AllByRecursion, take_while}
use Rattle.std.specs.Char.{is_ascii_digit}
use Rattle.std.specs.Str.{bytes_eq}
use Rattle.std.proofs.lemmas.Bool.{and_parts, cond_both}
use Rattle.std.proofs.lemmas.Bool.Decides.{nat_tests}
use Rattle.std.proofs.lemmas.List.Sums.{take_while-cons}
use Rattle.ir_types.specs.declared.names.Name.TheVariants.{Text}
use Rattle.ir_core.specs.Names.{is_name_byte}
use Rattle.ir_core.specs.Ranges.{AreBytes, IsNameInRange}
use Rattle.ir_lexer.specs.declared.strings.Symbol.{Symbol}
use Rattle.ir_lexer.specs.declared.token.TokenKind.{TokenKind}
use Rattle.ir_lexer.specs.declared.token.TokenKind.TheVariants as kind
use Rattle.ir_lexer.specs.Bytes.{are_digits, begins_with_colon, begins_word, is_blank, is_mark}
use Rattle.ir_lexer.specs.Cut.{Cut, Placed, cut, joined}
use Rattle.ir_lexer.specs.Names.{NameAt, name_at, numbered, quoted_name}
use Rattle.ir_lexer.specs.Names.NameAt.{Found, EmptyOrOpen, Missing}
use Rattle.ir_lexer.specs.Numbers.{if_below, value_of}
use Rattle.ir_lexer.specs.Pieces.{Piece, attribute, closed, label, metadata, named, number, numbered_block, piece, piece_len, plain, quoted, run}
use Rattle.ir_lexer.specs.Runs.{digits_at, is_no_quote, quoted_at, run_at}
use Rattle.ir_lexer.specs.Strings.{hex_value, is_hex, spelled, symbol, unescaped, unescaped_after}
use Rattle.module_texts.proofs.SpelledLimits.Lists.{guard_ok}

-- ---- bytes

pub are_bytes : (text : List ℕ) → ((k : ℕ) → slice_index text k < 2 ^ 8) → AreBytes text
are_bytes [] each = tt
are_bytes (b ∷ rest) each = (each 0, are_bytes rest (λ k. each (suc k)))

taken : (p : ℕ → Bool) (text : List ℕ) → AreBytes text → AreBytes (take_while p text)
taken p [] bytes = tt
taken p (b ∷ rest) bytes =
    subst AreBytes (sym (take_while-cons p b rest))
    (cond_both (p b) (b ∷ take_while p rest) [] AreBytes (λ yes. (bytes.0, taken p rest bytes.1)) (λ no. tt))

-- a hexadecimal digit is worth less than 16
hex_small : (b : ℕ) → is_hex b ≡ true → hex_value b < 16
hex_small b is = grind (arith, nat_tests)

symbol_small : (b : ℕ) (rest : List ℕ) → b < 2 ^ 8 → (symbol b rest).byte < 2 ^ 8
unfolding symbol
symbol_small b [] small = small
symbol_small b (c ∷ []) small =
    cond_both (b == 92 && c == 92) (spelled 92 2) (spelled b 1) (λ s. s.byte < 2 ^ 8) (λ yes. omega arith) (λ no. small)
symbol_small b (c ∷ d ∷ rest) small =
    let pair : Symbol = spelled (hex_value c * 16 + hex_value d) 3 in
    cond_both (b == 92 && c == 92) (spelled 92 2) (cond (b == 92 && is_hex c && is_hex d) pair (spelled b 1)) (λ s. s.byte < 2 ^ 8) (λ yes. omega arith) (λ no.
    cond_both (b == 92 && is_hex c && is_hex d) pair (spelled b 1) (λ s. s.byte < 2 ^ 8) (λ hexadecimal.
    let parts = and_parts (b == 92 && is_hex c) (is_hex d) hexadecimal in
    let high = hex_small c (and_parts (b == 92) (is_hex c) parts.0).1 in
    let low = hex_small d parts.1 in
    omega arith) (λ no. small))

unescaped_bytes : (skip : ℕ) (raw : List ℕ) → AreBytes raw → AreBytes (unescaped_after skip raw)
unfolding unescaped_after
unescaped_bytes skip [] bytes = tt
unescaped_bytes zero (b ∷ rest) bytes =
    (symbol_small b rest bytes.0, unescaped_bytes ((symbol b rest).len - 1) rest bytes.1)
unescaped_bytes (suc skip) (b ∷ rest) bytes = unescaped_bytes skip rest bytes.1

-- what stands between quotes and isn't empty is a name
unescaped_name : (b : ℕ) (raw : List ℕ) → AreBytes (b ∷ raw) → IsNameInRange (Text (unescaped (b ∷ raw)))
unfolding unescaped_after
unescaped_name b raw bytes = (omega arith, unescaped_bytes 0 (b ∷ raw) bytes)

run_name : (b : ℕ) (rest : List ℕ) → is_name_byte b ≡ true → AreBytes (b ∷ rest) → IsNameInRange (Text (run_at (b ∷ rest)))
unfolding run_at
run_name b rest is bytes =
    let run : take_while is_name_byte (b ∷ rest) ≡ b ∷ take_while is_name_byte rest = take_while-cons is_name_byte b rest ∙ ap (λ yes. cond yes (b ∷ take_while is_name_byte rest) []) is in
    subst (λ bytes. IsNameInRange (Text bytes)) (sym run) (omega arith, (bytes.0, taken is_name_byte rest bytes.1))

-- ---- names

abbrev IsFoundInRange : NameAt → Type 0
IsFoundInRange (Found name len) = IsNameInRange name
IsFoundInRange EmptyOrOpen = Unit {0}
IsFoundInRange Missing = Unit {0}

below : (n : ℕ) (limit k : ℕ) → if_below limit n ≡ Some k → k < limit
below n limit k e =
    let both = guard_ok (nat_lt n limit) n k e in
    subst (λ m. m < limit) both.1 (ltb-true n limit both.0)

numbered_range : (n : Option ℕ) (len : ℕ) → ((k : ℕ) → n ≡ Some k → k < 2 ^ 32) → IsFoundInRange (numbered n len)
numbered_range None len small = tt
numbered_range (Some k) len small = small k refl

quoted_range : (raw : Option (List ℕ)) → ((bytes : List ℕ) → raw ≡ Some bytes → AreBytes bytes) → IsFoundInRange (quoted_name raw)
quoted_range None bytes = tt
quoted_range (Some []) bytes = tt
quoted_range (Some (b ∷ raw)) bytes = unescaped_name b raw (bytes (b ∷ raw) refl)

quoted_bytes : (text raw : List ℕ) → AreBytes text → quoted_at text ≡ Some raw → AreBytes raw
unfolding quoted_at
quoted_bytes text raw bytes e =
    let both = guard_ok (nat_lt (length (take_while is_no_quote text)) (length text)) (take_while is_no_quote text) raw e in
    subst AreBytes both.1 (taken is_no_quote text bytes)

name_range : (text : List ℕ) → AreBytes text → IsFoundInRange (name_at text)
unfolding name_at
name_range [] bytes = tt
name_range (b ∷ rest) bytes =
    cond_both (is_ascii_digit b) (numbered (if_below (2 ^ 32) (value_of (digits_at (b ∷ rest)))) (length (digits_at (b ∷ rest)))) _ IsFoundInRange
    (λ digit. numbered_range (if_below (2 ^ 32) (value_of (digits_at (b ∷ rest)))) (length (digits_at (b ∷ rest))) (below (value_of (digits_at (b ∷ rest))) (2 ^ 32)))
    (λ no. cond_both (is_name_byte b) (Found (Text (run_at (b ∷ rest))) (length (run_at (b ∷ rest)))) _ IsFoundInRange
    (λ is. run_name b rest is bytes)
    (λ no. cond_both (b == 34) (quoted_name (quoted_at rest)) Missing IsFoundInRange
    (λ quote. quoted_range (quoted_at rest) (λ raw e. quoted_bytes rest raw bytes.1 e))
    (λ no. tt)))

-- ---- tokens

abbrev pub IsKindInRange : TokenKind → Type 0
IsKindInRange (kind.Local name) = IsNameInRange name
IsKindInRange (kind.Global name) = IsNameInRange name
IsKindInRange (kind.Label name) = IsNameInRange name
IsKindInRange (kind.Text bytes) = AreBytes bytes
IsKindInRange _ = Unit {0}

unfoldable IsPieceInRange : Piece → Type 0
IsPieceInRange (Piece.Token k len) = IsKindInRange k
IsPieceInRange _ = Unit {0}

local_range : (at : NameAt) → IsFoundInRange at → IsPieceInRange (named kind.Local at)
unfolding IsPieceInRange
local_range (Found name len) range = range
local_range EmptyOrOpen range = tt
local_range Missing range = tt

global_range : (at : NameAt) → IsFoundInRange at → IsPieceInRange (named kind.Global at)
unfolding IsPieceInRange
global_range (Found name len) range = range
global_range EmptyOrOpen range = tt
global_range Missing range = tt

attribute_range : (digits : List ℕ) → IsPieceInRange (attribute digits)
unfolding IsPieceInRange
attribute_range [] = tt
attribute_range (d ∷ digits) = tt

metadata_range : (run : List ℕ) → IsPieceInRange (metadata run)
unfolding IsPieceInRange
metadata_range [] = tt
metadata_range (b ∷ run) = tt

closed_range : (raw after : List ℕ) → AreBytes raw → IsPieceInRange (closed raw after)
unfolding closed IsPieceInRange
closed_range [] after bytes = tt
closed_range (b ∷ raw) after bytes =
    cond_both (begins_with_colon after) _ _ IsPieceInRange (λ colon. unescaped_name b raw bytes) (λ no. (unescaped_name b raw bytes).1)

string_open : IsPieceInRange (Piece.BadString 0)
unfolding IsPieceInRange
string_open = tt

string_range : (text : List ℕ) (raw : Option (List ℕ)) → ((bytes : List ℕ) → raw ≡ Some bytes → AreBytes bytes) → IsPieceInRange (quoted text raw)
string_range text None bytes = string_open
string_range text (Some raw) bytes = closed_range raw _ (bytes raw refl)

block_range : (n : Option ℕ) (len : ℕ) → ((k : ℕ) → n ≡ Some k → k < 2 ^ 32) → IsPieceInRange (numbered_block n len)
unfolding IsPieceInRange
block_range None len small = tt
block_range (Some k) len small = small k refl

label_range : (run : List ℕ) → IsNameInRange (Text run) → IsPieceInRange (label run)
unfolding label IsPieceInRange
label_range run range =
    cond_both (are_digits run) _ _ IsPieceInRange
    (λ digits. block_range (if_below (2 ^ 32) (value_of run)) (length run) (below (value_of run) (2 ^ 32)))
    (λ no. range)

number_range : (negative : Bool) (n : Option ℕ) (len : ℕ) → IsPieceInRange (number negative n len)
unfolding IsPieceInRange
number_range negative None len = tt
number_range negative (Some n) len = tt

word_range : (word : List ℕ) (len : ℕ) → IsPieceInRange (Piece.Token (kind.Word word) len)
unfolding IsPieceInRange
word_range word len = tt

dots_range : IsPieceInRange (Piece.Token kind.Dots 3)
unfolding IsPieceInRange
dots_range = tt

no_number : IsPieceInRange Piece.BadNumber
unfolding IsPieceInRange
no_number = tt

no_byte : IsPieceInRange Piece.BadByte
unfolding IsPieceInRange
no_byte = tt

plain_range : (run : List ℕ) → IsPieceInRange (plain run)
unfolding plain
plain_range [] = no_byte
plain_range (b ∷ run) =
    let word = cond_both (begins_word b) (Piece.Token (kind.Word (b ∷ run)) (length (b ∷ run))) Piece.BadNumber IsPieceInRange (λ yes. word_range (b ∷ run) (length (b ∷ run))) (λ no. no_number) in
    let negative = cond_both (b == 45 && are_digits run) (number true (if_below (2 ^ 128) (value_of run)) (length (b ∷ run))) _ IsPieceInRange (λ digits. number_range true (if_below (2 ^ 128) (value_of run)) (length (b ∷ run))) (λ no. word) in
    let positive = cond_both (are_digits (b ∷ run)) (number false (if_below (2 ^ 128) (value_of (b ∷ run))) (length (b ∷ run))) _ IsPieceInRange (λ digits. number_range false (if_below (2 ^ 128) (value_of (b ∷ run))) (length (b ∷ run))) (λ no. negative) in
    cond_both (bytes_eq (b ∷ run) (codes "...")) (Piece.Token kind.Dots 3) _ IsPieceInRange (λ dots. dots_range) (λ no. positive)

run_range : (bytes after : List ℕ) → IsNameInRange (Text bytes) → IsPieceInRange (run bytes after)
run_range bytes after range =
    cond_both (begins_with_colon after) (label bytes) (plain bytes) IsPieceInRange (λ colon. label_range bytes range) (λ no. plain_range bytes)

piece_range : (text : List ℕ) → AreBytes text → IsPieceInRange (piece text)
unfolding piece IsPieceInRange
piece_range [] bytes = tt
piece_range (b ∷ rest) bytes =
    cond_both (is_blank b) _ _ IsPieceInRange (λ yes. tt)
    (λ no. cond_both (b == 59) _ _ IsPieceInRange (λ yes. tt)
    (λ no. cond_both (b == 37) _ _ IsPieceInRange (λ yes. local_range (name_at rest) (name_range rest bytes.1))
    (λ no. cond_both (b == 64) _ _ IsPieceInRange (λ yes. global_range (name_at rest) (name_range rest bytes.1))
    (λ no. cond_both (b == 35) _ _ IsPieceInRange (λ yes. attribute_range (digits_at rest))
    (λ no. cond_both (b == 33) _ _ IsPieceInRange (λ yes. metadata_range (run_at rest))
    (λ no. cond_both (b == 34) _ _ IsPieceInRange (λ yes. string_range rest (quoted_at rest) (λ raw e. quoted_bytes rest raw bytes.1 e))
    (λ no. cond_both (is_name_byte b) _ _ IsPieceInRange (λ yes. run_range (run_at (b ∷ rest)) (drop (length (run_at (b ∷ rest))) (b ∷ rest)) (run_name b rest yes bytes))
    (λ no. cond_both (is_mark b) _ _ IsPieceInRange (λ yes. tt) (λ no. tt)))))))))

-- ---- the whole text

abbrev pub IsCutInRange : Cut → Type 0
IsCutInRange (Ok tokens) = AllByRecursion (λ (t : Placed). IsKindInRange t.kind) tokens
IsCutInRange (Err fault) = Unit {0}

joined_range : (place : ℕ) (p : Piece) (more : Cut) → IsPieceInRange p → IsCutInRange more → IsCutInRange (joined place p more)
unfolding IsPieceInRange
joined_range place Piece.End more range rest = tt
joined_range place (Piece.Gap len) more range rest = rest
joined_range place (Piece.Token k len) (Ok tokens) range rest = (range, rest)
joined_range place (Piece.Token k len) (Err fault) range rest = tt
joined_range place Piece.BadByte more range rest = tt
joined_range place (Piece.BadString offset) more range rest = tt
joined_range place Piece.BadNumber more range rest = tt

pub cut_range : (skip place : ℕ) (text : List ℕ) → AreBytes text → IsCutInRange (cut skip place text)
unfolding cut
cut_range skip place [] bytes = tt
cut_range (suc skip) place (b ∷ rest) bytes = cut_range skip (place + 1) rest bytes.1
cut_range zero place (b ∷ rest) bytes =
    joined_range place (piece (b ∷ rest)) (cut (piece_len (piece (b ∷ rest)) - 1) (place + 1) rest)
    (piece_range (b ∷ rest) bytes)
    (cut_range (piece_len (piece (b ∷ rest)) - 1) (place + 1) rest bytes.1)
