-- What stands between the quotes of a printed name: no quote, and it means the name's bytes.
use Rattle.std.proofs.Common.{◌≡◌, ℕ, ◌+◌, ◌*◌, ◌/◌, ◌^◌, ◌<◌, Bool, true, false, not, ◌&&◌, List, [], ◌∷◌, ◌++◌, length, arith, length-append, refl, ap, ◌∙◌}
use Rattle.std.specs.Prelude.{◌==◌, nat_le}
use Rattle.std.proofs.lemmas.Bool.{agree_below_at, eqb-true, not-true, and_parts, and_from, cond_both}
use Rattle.std.proofs.lemmas.List.Folds.{list_all-append}
use Rattle.std.specs.List.{list_all, flat_map, AllByRecursion}
use Rattle.ir_lexer.specs.Runs.{is_no_quote}
use Rattle.ir_lexer.specs.Strings.{is_hex, hex_value, symbol, unescaped, unescaped_after}
use Rattle.ir_printer.specs.ExpressionPrinter.Printed.{hexadecimal_digit, escaped}

-- ---- a byte: what is true of each is found by going over all 256

no_quote_in_escaped : ℕ → Bool
no_quote_in_escaped b = list_all is_no_quote (escaped b)

escaped_has_no_quote : (b : ℕ) → b < 2 ^ 8 → list_all is_no_quote (escaped b) ≡ true
unfolding no_quote_in_escaped
escaped_has_no_quote b small = agree_below_at no_quote_in_escaped (λ _. true) 256 b refl small

-- two hexadecimal digits that mean the byte
abbrev is_pair : ℕ → ℕ → ℕ → Bool
is_pair b high low = not (high == 92) && is_hex high && is_hex low && (hex_value high * 16 + hex_value low == b)

is_pair_of : ℕ → Bool
is_pair_of b = is_pair b (hexadecimal_digit (b / 16)) (hexadecimal_digit b)

pair_of_byte : (b : ℕ) → b < 2 ^ 8 → is_pair b (hexadecimal_digit (b / 16)) (hexadecimal_digit b) ≡ true
unfolding is_pair_of
pair_of_byte b small = agree_below_at is_pair_of (λ _. true) 256 b refl small

-- ---- the front of a string

-- a byte that is no backslash is itself
itself : (b : ℕ) (rest : List ℕ) → (b == 92) ≡ false → unescaped (b ∷ rest) ≡ b ∷ unescaped rest
unfolding unescaped_after symbol
itself b [] other = refl
itself b (c ∷ []) other = rw other refl
itself b (c ∷ d ∷ rest) other = rw other refl

-- a backslash and two hexadecimal digits are the byte that these mean
hexadecimal : (b high low : ℕ) (rest : List ℕ) → (high == 92) ≡ false → is_hex high ≡ true → is_hex low ≡ true → hex_value high * 16 + hex_value low ≡ b → unescaped (92 ∷ high ∷ low ∷ rest) ≡ b ∷ unescaped rest
unfolding unescaped_after symbol
hexadecimal b high low rest other is_high is_low value = rw (other, is_high, is_low) (ap (λ byte. byte ∷ unescaped rest) value)

of_pair : (b high low : ℕ) (rest : List ℕ) → is_pair b high low ≡ true → unescaped (92 ∷ high ∷ low ∷ rest) ≡ b ∷ unescaped rest
of_pair b high low rest pair =
    let value = and_parts _ (hex_value high * 16 + hex_value low == b) pair in
    let second = and_parts _ (is_hex low) value.0 in
    let first = and_parts (not (high == 92)) (is_hex high) second.0 in
    hexadecimal b high low rest (not-true (high == 92) first.0) first.1 second.1 (eqb-true _ b value.1)

of_byte : (b : ℕ) (rest : List ℕ) → b < 2 ^ 8 → unescaped (escaped b ++ rest) ≡ b ∷ unescaped rest
of_byte b rest small =
    cond_both (nat_le 32 b && nat_le b 126 && not (b == 34) && not (b == 92)) (b ∷ []) (92 ∷ hexadecimal_digit (b / 16) ∷ hexadecimal_digit b ∷ [])
    (λ text. unescaped (text ++ rest) ≡ b ∷ unescaped rest)
    (λ shown. itself b rest (not-true (b == 92) (and_parts _ (not (b == 92)) shown).1))
    (λ _. of_pair b (hexadecimal_digit (b / 16)) (hexadecimal_digit b) rest (pair_of_byte b small))

-- ---- the whole

pub means_the_bytes : (bytes : List ℕ) → AllByRecursion (λ b. b < 2 ^ 8) bytes → unescaped (flat_map escaped bytes) ≡ bytes
unfolding unescaped_after
means_the_bytes [] small = refl
means_the_bytes (b ∷ bytes) small = of_byte b (flat_map escaped bytes) small.0 ∙ ap (λ more. b ∷ more) (means_the_bytes bytes small.1)

pub has_no_quote : (bytes : List ℕ) → AllByRecursion (λ b. b < 2 ^ 8) bytes → list_all is_no_quote (flat_map escaped bytes) ≡ true
has_no_quote [] small = refl
has_no_quote (b ∷ bytes) small =
    list_all-append is_no_quote (escaped b) (flat_map escaped bytes)
    ∙ and_from _ _ (escaped_has_no_quote b small.0) (has_no_quote bytes small.1)

pub is_not_empty : (bytes : List ℕ) → 0 < length bytes → 0 < length (flat_map escaped bytes)
is_not_empty [] some = absurd (omega arith)
is_not_empty (b ∷ bytes) some =
    let one = cond_both (nat_le 32 b && nat_le b 126 && not (b == 34) && not (b == 92)) (b ∷ []) (92 ∷ hexadecimal_digit (b / 16) ∷ hexadecimal_digit b ∷ [])
    (λ text. 0 < length text) (λ _. omega arith) (λ _. omega arith) in
    omega (arith, one, length-append (escaped b) (flat_map escaped bytes))
