-- So few digits write a number in range, whichever they are.
use Rattle.std.proofs.Common.{◌≡◌, ℕ, zero, suc, ◌+◌, ◌-◌, ◌*◌, ◌^◌, ◌<◌, ◌≤◌, true, List, [], ◌∷◌, length, refl, ap, sym, ◌∙◌, arith, lt-ltb}
use Rattle.std.specs.Char.{is_ascii_digit}
use Rattle.std.specs.List.{fold, list_all}
use Rattle.std.proofs.lemmas.Bool.{and_parts, cond-true}
use Rattle.std.proofs.lemmas.Bool.Decides.{nat_tests}
use Rattle.ir_core.specs.Names.{is_name_byte}
use Rattle.ir_lexer.specs.declared.names.NameSpan.TheVariants as span
use Rattle.ir_lexer.specs.declared.pieces.Outline.TheVariants as outline_is
use Rattle.ir_lexer.specs.declared.token.Kind.TheVariants as alone
use Rattle.ir_lexer.specs.Bytes.{are_digits}
use Rattle.ir_lexer.specs.Names.{numbered, span_of}
use Rattle.ir_lexer.specs.Numbers.{if_below, value_of, with_digit}
use Rattle.ir_lexer.specs.Pieces.{number_outline}
use Rattle.ir_lexer.specs.Runs.{digits_at, run_at}
use Rattle.ir_lexer.proofs.Agrees.{all_taken}
use Rattle.ir_lexer.proofs.Classes.{run_begun}

-- m, and so many zeros behind it
abbrev times : ℕ → ℕ → ℕ
times m zero = m
times m (suc k) = times (m * 10) k

grows : (m k : ℕ) → m ≤ times m k
grows m zero = omega arith
grows m (suc k) = let more = grows (m * 10) k in omega (arith, more)

digit_small : (d : ℕ) → is_ascii_digit d ≡ true → d - 48 ≤ 9
digit_small d is = grind (arith, nat_tests)

below : (k n m : ℕ) (digits : List ℕ) → list_all is_ascii_digit digits ≡ true → length digits ≤ k → n < m → fold with_digit n digits < times m k
below k n m [] all few less = let more = grows m k in omega (arith, less, more)
below zero n m (d ∷ digits) all few less = absurd (omega (arith, few))
below (suc k) n m (d ∷ digits) all few less =
    let parts = and_parts (is_ascii_digit d) (list_all is_ascii_digit digits) all in
    let small = digit_small d parts.0 in
    below k (with_digit n d) (m * 10) digits parts.1 (omega (arith, few)) (omega (arith, less, small))

nine_zeros : times 1 9 ≡ 1000000000
nine_zeros = refl

more_zeros : times 1 38 ≡ 100000000000000000000000000000000000000
more_zeros = refl

all_of : (digits : List ℕ) → are_digits digits ≡ true → list_all is_ascii_digit digits ≡ true
all_of [] is = refl
all_of (d ∷ digits) is = is

pub short_number : (digits : List ℕ) (len : ℕ) → are_digits digits ≡ true → length digits ≤ 38 → outline_is.Token alone.Number len ≡ number_outline (if_below (2 ^ 128) (value_of digits)) len
short_number digits len all few =
    let least = below 38 0 1 digits (all_of digits all) few (omega arith) in
    sym (ap (λ o. number_outline o len) (cond-true _ _ _ (lt-ltb (value_of digits) (2 ^ 128) (omega (arith, least, more_zeros)))))

pub short_name : (digits : List ℕ) → list_all is_ascii_digit digits ≡ true → length digits ≤ 9 → span.Found (length digits) ≡ span_of (numbered (if_below (2 ^ 32) (value_of digits)) (length digits))
short_name digits all few =
    let least = below 9 0 1 digits all few (omega arith) in
    sym (ap (λ o. span_of (numbered o (length digits))) (cond-true _ _ _ (lt-ltb (value_of digits) (2 ^ 32) (omega (arith, least, nine_zeros)))))

-- ---- names

pub all_digits : (text : List ℕ) → list_all is_ascii_digit (digits_at text) ≡ true
unfolding digits_at
all_digits text = all_taken is_ascii_digit text

pub run_longer : (b : ℕ) (rest : List ℕ) → is_name_byte b ≡ true → length (run_at (b ∷ rest)) ≡ length (run_at rest) + 1
run_longer b rest is = ap length (run_begun b rest is) ∙ omega arith

pub ruleset names = (all_digits, run_longer)
