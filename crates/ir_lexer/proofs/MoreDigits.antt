-- More digits make no smaller number.
use Rattle.std.proofs.Common.{◌≡◌, ℕ, ◌+◌, ◌-◌, ◌*◌, ◌<◌, ◌≤◌, List, [], ◌∷◌, length, get_or, drop, sym, ap, ◌∙◌, arith}
use Rattle.std.proofs.lemmas.List.{drop_more, drop_all}
use Rattle.std.specs.List.{fold}
use Rattle.ir_lexer.specs.Numbers.{with_digit, value_of}

at_least : (n : ℕ) (digits : List ℕ) → n ≤ fold with_digit n digits
at_least n [] = omega arith
at_least n (d ∷ digits) = let more = at_least (with_digit n d) digits in omega arith

pub above : (n i : ℕ) (digits : List ℕ) → fold with_digit n (drop i digits) ≡ value_of digits → i < length digits → 64 < n * 10 + (get_or digits i 0 - 48) → 64 < value_of digits
above n i digits same inside large =
    let step : fold with_digit n (drop i digits) ≡ fold with_digit (n * 10 + (get_or digits i 0 - 48)) (drop (i + 1) digits) = ap (fold with_digit n) (drop_more digits i 0 inside) in
    let more = at_least (n * 10 + (get_or digits i 0 - 48)) (drop (i + 1) digits) in
    omega arith

pub whole : (n i : ℕ) (digits : List ℕ) → fold with_digit n (drop i digits) ≡ value_of digits → length digits ≤ i → n ≡ value_of digits
whole n i digits same outside = sym (ap (fold with_digit n) (drop_all i digits outside)) ∙ same
