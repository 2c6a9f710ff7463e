-- What a token says, by its kind and its bytes, is what is said where it stands.
use Rattle.std.proofs.Common.{◌≡◌, ℕ, suc, ◌+◌, ◌-◌, ◌^◌, ◌<◌, ◌≤◌, Bool, true, false, cond, List, [], ◌∷◌, length, take, drop, codes, Option, Some, None, refl, ap, sym, ◌∙◌, subst, arith, ltb-true}
use Rattle.std.specs.Prelude.{◌==◌, ◌&&◌, nat_lt}
use Rattle.std.specs.Char.{is_ascii_digit}
use Rattle.std.specs.List.{list_all, take_while}
use Rattle.std.specs.Str.{bytes_eq}
use Rattle.std.proofs.lemmas.Bool.{and_from, and_left, and_parts, cond-false, cond-true, cond_both}
use Rattle.std.proofs.lemmas.Bool.Decides.{nat_tests}
use Rattle.std.proofs.lemmas.List.{length-drop, length-take-le, take-take}
use Rattle.std.proofs.lemmas.List.Sums.{take_while-cons}
use Rattle.ir_core.specs.Names.{is_name_byte}
use Rattle.ir_types.specs.declared.names.Name.TheVariants.{Number, Text}
use Rattle.ir_lexer.specs.declared.token.Number as numbers
use Rattle.ir_lexer.specs.declared.token.TokenKind.{TokenKind}
use Rattle.ir_lexer.specs.declared.token.TokenKind.TheVariants as kind
use Rattle.ir_lexer.specs.Bytes.{are_digits, begins_with_colon, begins_with_quote, begins_word, is_blank, is_mark}
use Rattle.ir_lexer.specs.Names.{NameAt, name_at, numbered, quoted_name}
use Rattle.ir_lexer.specs.Names.NameAt.{Found, EmptyOrOpen, Missing}
use Rattle.ir_lexer.specs.Numbers.{if_below, value_of}
use Rattle.ir_lexer.specs.Pieces.{Piece, attribute, closed, kind_alone, label, metadata, named, number, numbered_block, piece, plain, quoted, run}
use Rattle.ir_lexer.specs.Runs.{digits_at, is_no_quote, quoted_at, run_at}
use Rattle.ir_lexer.specs.Said.{between, name_said, number_said, or_zero, said, signed}
use Rattle.ir_lexer.specs.Strings.{unescaped, unescaped_after}

-- ---- fronts

taken_front : (p : ℕ → Bool) (text : List ℕ) → take (length (take_while p text)) text ≡ take_while p text
taken_front p [] = refl
taken_front p (b ∷ rest) =
    ap (λ w. take (length w) (b ∷ rest)) (take_while-cons p b rest)
    ∙ cond_both (p b) (b ∷ take_while p rest) [] (λ w. take (length w) (b ∷ rest) ≡ w) (λ yes. ap (λ w. b ∷ w) (taken_front p rest)) (λ no. refl)
    ∙ sym (take_while-cons p b rest)

pub all_taken : (p : ℕ → Bool) (text : List ℕ) → list_all p (take_while p text) ≡ true
all_taken p [] = refl
all_taken p (b ∷ rest) =
    ap (list_all p) (take_while-cons p b rest)
    ∙ cond_both (p b) (b ∷ take_while p rest) [] (λ w. list_all p w ≡ true) (λ yes. and_from (p b) (list_all p (take_while p rest)) yes (all_taken p rest)) (λ no. refl)

begun_so : (p : ℕ → Bool) (b : ℕ) (rest : List ℕ) → p b ≡ true → take_while p (b ∷ rest) ≡ b ∷ take_while p rest
begun_so p b rest is = take_while-cons p b rest ∙ cond-true (p b) _ _ is

behind_first : (b len : ℕ) (rest : List ℕ) → drop 1 (take (len + 1) (b ∷ rest)) ≡ take len rest
behind_first b len rest =
    let next : len + 1 ≡ suc len = omega arith in
    ap (λ n. drop 1 (take n (b ∷ rest))) next

without_last : (n : ℕ) (text : List ℕ) → n + 1 ≤ length text → take (length (take (n + 1) text) - 1) (take (n + 1) text) ≡ take n text
without_last n text long =
    let less : length (take (n + 1) text) - 1 ≡ n = omega (arith, length-take-le (n + 1) text long) in
    ap (λ m. take m (take (n + 1) text)) less ∙ take-take n (n + 1) text (omega arith)

between_quotes : (b : ℕ) (raw rest : List ℕ) → take (length raw) rest ≡ raw → length raw < length rest → between (take (length raw + 2) (b ∷ rest)) ≡ raw
between_quotes b raw rest is long =
    let next : length raw + 2 ≡ suc (length raw + 1) = omega arith in
    let enough : length raw + 1 ≤ length rest = omega (arith, long) in
    let less : length (b ∷ take (length raw + 1) rest) - 2 ≡ length raw = omega (arith, length-take-le (length raw + 1) rest enough) in
    ap (λ n. between (take n (b ∷ rest))) next
    ∙ ap (λ m. take m (take (length raw + 1) rest)) less
    ∙ take-take (length raw) (length raw + 1) rest (omega arith)
    ∙ is

some_behind : (after : List ℕ) → begins_with_colon after ≡ true → 0 < length after
some_behind [] is = cc
some_behind (b ∷ after) is = omega arith

colon_behind : (n : ℕ) (text : List ℕ) → begins_with_colon (drop n text) ≡ true → n + 1 ≤ length text
colon_behind n text is = omega (arith, some_behind (drop n text) is, length-drop n text)

-- ---- names

some_guard : {A : Type 0} (b : Bool) (x y : A) → cond b (Some x) None ≡ Some y → (b ≡ true) × (x ≡ y)
some_guard true x y is = (refl, cc)
some_guard false x y is = absurd cc

-- what stands before a quote
record IsQuoted (rest raw : List ℕ) : Type 0 where
  pub front : take (length raw) rest ≡ raw
  pub closed : length raw < length rest

is_quoted : (rest raw : List ℕ) → quoted_at rest ≡ Some raw → IsQuoted rest raw
unfolding quoted_at
is_quoted rest raw is =
    let w = take_while is_no_quote rest in
    let both = some_guard (nat_lt (length w) (length rest)) w raw is in
    subst (IsQuoted rest) both.1 (record { front = taken_front is_no_quote rest; closed = ltb-true (length w) (length rest) both.0 })

digit_no_quote : (b : ℕ) → is_ascii_digit b ≡ true → (b == 34) ≡ false
digit_no_quote b is = grind (arith, nat_tests)

name_no_quote : (b : ℕ) → is_name_byte b ≡ true → (b == 34) ≡ false
name_no_quote b is = grind (arith, nat_tests)

digits_said : (b : ℕ) (bytes : List ℕ) → (b == 34) ≡ false → are_digits (b ∷ bytes) ≡ true → name_said (b ∷ bytes) ≡ Number (or_zero (if_below (2 ^ 32) (value_of (b ∷ bytes))))
unfolding name_said
digits_said b bytes other all = cond-false (b == 34) _ _ other ∙ cond-true (are_digits (b ∷ bytes)) _ _ all

text_said : (b : ℕ) (bytes : List ℕ) → (b == 34) ≡ false → are_digits (b ∷ bytes) ≡ false → name_said (b ∷ bytes) ≡ Text (b ∷ bytes)
unfolding name_said
text_said b bytes other none = cond-false (b == 34) _ _ other ∙ cond-false (are_digits (b ∷ bytes)) _ _ none

string_said : (b : ℕ) (raw rest : List ℕ) → (b == 34) ≡ true → IsQuoted rest raw → name_said (take (length raw + 2) (b ∷ rest)) ≡ Text (unescaped raw)
unfolding name_said
string_said b raw rest quote is =
    let next : length raw + 2 ≡ suc (length raw + 1) = omega arith in
    let first : begins_with_quote (take (length raw + 2) (b ∷ rest)) ≡ true = ap (λ n. begins_with_quote (take n (b ∷ rest))) next ∙ quote in
    cond-true (begins_with_quote (take (length raw + 2) (b ∷ rest))) _ _ first
    ∙ ap (λ bytes. Text (unescaped bytes)) (between_quotes b raw rest is.front is.closed)

abbrev IsNameSaid : List ℕ → NameAt → Type 0
IsNameSaid text (Found name len) = name_said (take len text) ≡ name
IsNameSaid text EmptyOrOpen = Unit {0}
IsNameSaid text Missing = Unit {0}

numbered_said : (text : List ℕ) (o : Option ℕ) (len : ℕ) → name_said (take len text) ≡ Number (or_zero o) → IsNameSaid text (numbered o len)
numbered_said text None len is = tt
numbered_said text (Some n) len is = is

quoted_name_said : (b : ℕ) (rest : List ℕ) (o : Option (List ℕ)) → (b == 34) ≡ true → ((raw : List ℕ) → o ≡ Some raw → IsQuoted rest raw) → IsNameSaid (b ∷ rest) (quoted_name o)
quoted_name_said b rest None quote is = tt
quoted_name_said b rest (Some []) quote is = tt
quoted_name_said b rest (Some (c ∷ raw)) quote is = string_said b (c ∷ raw) rest quote (is (c ∷ raw) refl)

name_is_said : (text : List ℕ) → IsNameSaid text (name_at text)
unfolding name_at digits_at run_at
name_is_said [] = tt
name_is_said (b ∷ rest) =
    cond_both (is_ascii_digit b) (numbered (if_below (2 ^ 32) (value_of (digits_at (b ∷ rest)))) (length (digits_at (b ∷ rest)))) _ (IsNameSaid (b ∷ rest))
    (λ digit.
    let front = begun_so is_ascii_digit b rest digit in
    let all = ap are_digits front ∙ and_from (is_ascii_digit b) _ digit (all_taken is_ascii_digit rest) in
    numbered_said (b ∷ rest) (if_below (2 ^ 32) (value_of (digits_at (b ∷ rest)))) (length (digits_at (b ∷ rest)))
    (ap name_said (taken_front is_ascii_digit (b ∷ rest) ∙ front)
    ∙ digits_said b (take_while is_ascii_digit rest) (digit_no_quote b digit) (sym (ap are_digits front) ∙ all)
    ∙ ap (λ w. Number (or_zero (if_below (2 ^ 32) (value_of w)))) (sym front)))
    (λ no. cond_both (is_name_byte b) (Found (Text (run_at (b ∷ rest))) (length (run_at (b ∷ rest)))) _ (IsNameSaid (b ∷ rest))
    (λ is.
    let front = begun_so is_name_byte b rest is in
    ap name_said (taken_front is_name_byte (b ∷ rest) ∙ front)
    ∙ text_said b (take_while is_name_byte rest) (name_no_quote b is) (and_left (is_ascii_digit b) _ no)
    ∙ ap Text (sym front))
    (λ none. cond_both (b == 34) (quoted_name (quoted_at rest)) Missing (IsNameSaid (b ∷ rest))
    (λ quote. quoted_name_said b rest (quoted_at rest) quote (λ raw is. is_quoted rest raw is))
    (λ other. tt)))

-- ---- pieces

unfoldable pub IsSaid : List ℕ → Piece → Type 0
IsSaid text (Piece.Token k len) = said (kind_alone k) (take len text) ≡ k
IsSaid text _ = Unit {0}

no_byte : (text : List ℕ) → IsSaid text Piece.BadByte
unfolding IsSaid
no_byte text = tt

no_number : (text : List ℕ) → IsSaid text Piece.BadNumber
unfolding IsSaid
no_number text = tt

no_string : (text : List ℕ) (offset : ℕ) → IsSaid text (Piece.BadString offset)
unfolding IsSaid
no_string text offset = tt

local_said : (b : ℕ) (rest : List ℕ) (at : NameAt) → IsNameSaid rest at → IsSaid (b ∷ rest) (named kind.Local at)
unfolding IsSaid
local_said b rest (Found name len) is = ap (λ bytes. kind.Local (name_said bytes)) (behind_first b len rest) ∙ ap kind.Local is
local_said b rest EmptyOrOpen is = tt
local_said b rest Missing is = tt

global_said : (b : ℕ) (rest : List ℕ) (at : NameAt) → IsNameSaid rest at → IsSaid (b ∷ rest) (named kind.Global at)
unfolding IsSaid
global_said b rest (Found name len) is = ap (λ bytes. kind.Global (name_said bytes)) (behind_first b len rest) ∙ ap kind.Global is
global_said b rest EmptyOrOpen is = tt
global_said b rest Missing is = tt

attribute_said : (b : ℕ) (rest digits : List ℕ) → take (length digits) rest ≡ digits → IsSaid (b ∷ rest) (attribute digits)
unfolding IsSaid
attribute_said b rest [] is = tt
attribute_said b rest (d ∷ digits) is = ap kind.Attribute (behind_first b (length (d ∷ digits)) rest ∙ is)

metadata_said : (b : ℕ) (rest run : List ℕ) → take (length run) rest ≡ run → IsSaid (b ∷ rest) (metadata run)
unfolding IsSaid
metadata_said b rest [] is = refl
metadata_said b rest (c ∷ run) is = ap kind.Metadata (behind_first b (length (c ∷ run)) rest ∙ is)

string_text : (b : ℕ) (raw rest : List ℕ) → IsQuoted rest raw → IsSaid (b ∷ rest) (Piece.Token (kind.Text (unescaped raw)) (length raw + 2))
unfolding IsSaid
string_text b raw rest is = ap (λ bytes. kind.Text (unescaped bytes)) (between_quotes b raw rest is.front is.closed)

nothing_escaped : unescaped [] ≡ []
unfolding unescaped_after
nothing_escaped = refl

string_label : (b : ℕ) (raw rest : List ℕ) → (b == 34) ≡ true → IsQuoted rest raw → begins_with_colon (drop (length raw + 1) rest) ≡ true → IsSaid (b ∷ rest) (Piece.Token (kind.Label (Text (unescaped raw))) (length raw + 3))
unfolding IsSaid
string_label b raw rest quote is colon =
    let long : length raw + 2 + 1 ≤ length (b ∷ rest) = omega (arith, colon_behind (length raw + 1) rest colon) in
    let next : length raw + 3 ≡ length raw + 2 + 1 = omega arith in
    ap (λ n. kind.Label (name_said (take (length (take n (b ∷ rest)) - 1) (take n (b ∷ rest))))) next
    ∙ ap (λ bytes. kind.Label (name_said bytes)) (without_last (length raw + 2) (b ∷ rest) long)
    ∙ ap kind.Label (string_said b raw rest quote is)

closed_said : (b : ℕ) (raw rest : List ℕ) → (b == 34) ≡ true → IsQuoted rest raw → IsSaid (b ∷ rest) (closed raw (drop (length raw + 1) rest))
unfolding closed
closed_said b [] rest quote is = subst (λ bytes. IsSaid (b ∷ rest) (Piece.Token (kind.Text bytes) 2)) nothing_escaped (string_text b [] rest is)
closed_said b (c ∷ raw) rest quote is =
    cond_both (begins_with_colon (drop (length (c ∷ raw) + 1) rest)) _ _ (IsSaid (b ∷ rest)) (λ colon. string_label b (c ∷ raw) rest quote is colon) (λ no. string_text b (c ∷ raw) rest is)

quoted_said : (b : ℕ) (rest : List ℕ) (o : Option (List ℕ)) → (b == 34) ≡ true → ((raw : List ℕ) → o ≡ Some raw → IsQuoted rest raw) → IsSaid (b ∷ rest) (quoted rest o)
quoted_said b rest None quote is = no_string (b ∷ rest) 0
quoted_said b rest (Some raw) quote is = closed_said b raw rest quote (is raw refl)

-- ---- runs

-- a run at the front of a text
record IsRun (text : List ℕ) (c : ℕ) (cs : List ℕ) : Type 0 where
  pub first : is_name_byte c ≡ true
  pub front : take (length (c ∷ cs)) text ≡ c ∷ cs

block_said : (text : List ℕ) (o : Option ℕ) (len : ℕ) → name_said (take (length (take (len + 1) text) - 1) (take (len + 1) text)) ≡ Number (or_zero o) → IsSaid text (numbered_block o len)
unfolding IsSaid
block_said text None len is = tt
block_said text (Some n) len is = ap kind.Label is

named_block_said : (text bytes : List ℕ) (len : ℕ) → name_said (take (length (take len text) - 1) (take len text)) ≡ Text bytes → IsSaid text (Piece.Token (kind.Label (Text bytes)) len)
unfolding IsSaid
named_block_said text bytes len is = ap kind.Label is

label_said : (text : List ℕ) (c : ℕ) (cs : List ℕ) → IsRun text c cs → length (c ∷ cs) + 1 ≤ length text → IsSaid text (label (c ∷ cs))
unfolding label
label_said text c cs is long =
    let bytes = ap name_said (without_last (length (c ∷ cs)) text long ∙ is.front) in
    cond_both (are_digits (c ∷ cs)) _ _ (IsSaid text)
    (λ digits. block_said text (if_below (2 ^ 32) (value_of (c ∷ cs))) (length (c ∷ cs)) (bytes ∙ digits_said c cs (name_no_quote c is.first) digits))
    (λ none. named_block_said text (c ∷ cs) (length (c ∷ cs) + 1) (bytes ∙ text_said c cs (name_no_quote c is.first) none))

number_is_said : (text : List ℕ) (negative : Bool) (o : Option ℕ) (len : ℕ) (digits : List ℕ) → o ≡ if_below (2 ^ 128) (value_of digits) → number_said (take len text) ≡ signed negative digits → IsSaid text (number negative o len)
unfolding IsSaid
number_is_said text negative None len digits e is = tt
number_is_said text negative (Some n) len digits e is =
    ap kind.Number (is ∙ ap (λ (m : Option ℕ). let it : numbers.Number = record { negative = negative; magnitude = or_zero m } in it) (sym e))

digit_no_minus : (c : ℕ) → is_ascii_digit c ≡ true → (c == 45) ≡ false
digit_no_minus c is = grind (arith, nat_tests)

positive_said : (c : ℕ) (cs : List ℕ) → are_digits (c ∷ cs) ≡ true → number_said (c ∷ cs) ≡ signed false (c ∷ cs)
unfolding number_said
positive_said c cs all = cond-false (c == 45) _ _ (digit_no_minus c (and_parts (is_ascii_digit c) (list_all is_ascii_digit cs) all).0)

negative_said : (c : ℕ) (cs : List ℕ) → (c == 45) ≡ true → number_said (c ∷ cs) ≡ signed true cs
unfolding number_said
negative_said c cs minus = cond-true (c == 45) _ _ minus

dots_said : (text : List ℕ) → IsSaid text (Piece.Token kind.Dots 3)
unfolding IsSaid
dots_said text = refl

word_said : (text bytes : List ℕ) → take (length bytes) text ≡ bytes → IsSaid text (Piece.Token (kind.Word bytes) (length bytes))
unfolding IsSaid
word_said text bytes is = ap kind.Word is

plain_said : (text : List ℕ) (c : ℕ) (cs : List ℕ) → IsRun text c cs → IsSaid text (plain (c ∷ cs))
unfolding plain
plain_said text c cs is =
    let word = cond_both (begins_word c) (Piece.Token (kind.Word (c ∷ cs)) (length (c ∷ cs))) Piece.BadNumber (IsSaid text) (λ yes. word_said text (c ∷ cs) is.front) (λ no. no_number text) in
    let negative = cond_both (c == 45 && are_digits cs) (number true (if_below (2 ^ 128) (value_of cs)) (length (c ∷ cs))) _ (IsSaid text)
    (λ both. number_is_said text true (if_below (2 ^ 128) (value_of cs)) (length (c ∷ cs)) cs refl (ap number_said is.front ∙ negative_said c cs (and_parts (c == 45) (are_digits cs) both).0))
    (λ no. word) in
    let positive = cond_both (are_digits (c ∷ cs)) (number false (if_below (2 ^ 128) (value_of (c ∷ cs))) (length (c ∷ cs))) _ (IsSaid text)
    (λ digits. number_is_said text false (if_below (2 ^ 128) (value_of (c ∷ cs))) (length (c ∷ cs)) (c ∷ cs) refl (ap number_said is.front ∙ positive_said c cs digits))
    (λ no. negative) in
    cond_both (bytes_eq (c ∷ cs) (codes "...")) (Piece.Token kind.Dots 3) _ (IsSaid text) (λ dots. dots_said text) (λ no. positive)

run_said : (text : List ℕ) (c : ℕ) (cs : List ℕ) → IsRun text c cs → IsSaid text (run (c ∷ cs) (drop (length (c ∷ cs)) text))
run_said text c cs is =
    cond_both (begins_with_colon (drop (length (c ∷ cs)) text)) (label (c ∷ cs)) (plain (c ∷ cs)) (IsSaid text)
    (λ colon. label_said text c cs is (colon_behind (length (c ∷ cs)) text colon)) (λ no. plain_said text c cs is)

run_here : (b : ℕ) (rest : List ℕ) → is_name_byte b ≡ true → IsSaid (b ∷ rest) (run (run_at (b ∷ rest)) (drop (length (run_at (b ∷ rest))) (b ∷ rest)))
unfolding run_at
run_here b rest is =
    let front = begun_so is_name_byte b rest is in
    subst (λ w. IsSaid (b ∷ rest) (run w (drop (length w) (b ∷ rest)))) (sym front)
    (run_said (b ∷ rest) b (take_while is_name_byte rest) (record {
      first = is;
      front = subst (λ w. take (length w) (b ∷ rest) ≡ w) front (taken_front is_name_byte (b ∷ rest));
    }))

digits_here : (rest : List ℕ) → take (length (digits_at rest)) rest ≡ digits_at rest
unfolding digits_at
digits_here rest = taken_front is_ascii_digit rest

bytes_here : (rest : List ℕ) → take (length (run_at rest)) rest ≡ run_at rest
unfolding run_at
bytes_here rest = taken_front is_name_byte rest

-- ---- what stands at the front of a text

pub piece_said : (text : List ℕ) → IsSaid text (piece text)
unfolding piece IsSaid
piece_said [] = tt
piece_said (b ∷ rest) =
    cond_both (is_blank b) _ _ (IsSaid (b ∷ rest)) (λ yes. tt)
    (λ no. cond_both (b == 59) _ _ (IsSaid (b ∷ rest)) (λ yes. tt)
    (λ no. cond_both (b == 37) _ _ (IsSaid (b ∷ rest)) (λ yes. local_said b rest (name_at rest) (name_is_said rest))
    (λ no. cond_both (b == 64) _ _ (IsSaid (b ∷ rest)) (λ yes. global_said b rest (name_at rest) (name_is_said rest))
    (λ no. cond_both (b == 35) _ _ (IsSaid (b ∷ rest)) (λ yes. attribute_said b rest (digits_at rest) (digits_here rest))
    (λ no. cond_both (b == 33) _ _ (IsSaid (b ∷ rest)) (λ yes. metadata_said b rest (run_at rest) (bytes_here rest))
    (λ no. cond_both (b == 34) _ _ (IsSaid (b ∷ rest)) (λ yes. quoted_said b rest (quoted_at rest) yes (λ raw is. is_quoted rest raw is))
    (λ no. cond_both (is_name_byte b) _ _ (IsSaid (b ∷ rest)) (λ yes. run_here b rest yes)
    (λ no. cond_both (is_mark b) _ _ (IsSaid (b ∷ rest)) (λ yes. refl) (λ no. tt)))))))))

pub token_said : (text : List ℕ) (p : Piece) → IsSaid text p → (k : TokenKind) (len : ℕ) → p ≡ Piece.Token k len → said (kind_alone k) (take len text) ≡ k
unfolding IsSaid
token_said text p is k len e = subst (IsSaid text) e is
