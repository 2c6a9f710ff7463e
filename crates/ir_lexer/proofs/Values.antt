-- What is too large stays too large, whatever digits follow.
use Rattle.std.proofs.Common.{◌≡◌, ℕ, ◌+◌, ◌-◌, ◌*◌, ◌<◌, ◌≤◌, List, [], ◌∷◌, length, get_or, drop, None, Some, sym, ap, ◌∙◌, arith, le-ltb, lt-ltb}
use Rattle.std.proofs.lemmas.Bool.{cond-false, cond-true}
use Rattle.std.proofs.lemmas.List.{drop_more, drop_all}
use Rattle.std.specs.List.{fold}
use Rattle.ir_lexer.specs.Numbers.{with_digit, value_of, if_below}

at_least : (n : ℕ) (digits : List ℕ) → n ≤ fold with_digit n digits
at_least n [] = omega arith
at_least n (d ∷ digits) = let more = at_least (with_digit n d) digits in omega arith

pub too_large : (limit n i : ℕ) (digits : List ℕ) → fold with_digit n (drop i digits) ≡ value_of digits → i < length digits → limit ≤ n * 10 + (get_or digits i 0 - 48) → None ≡ if_below limit (value_of digits)
too_large limit n i digits same inside large =
    let step : fold with_digit n (drop i digits) ≡ fold with_digit (n * 10 + (get_or digits i 0 - 48)) (drop (i + 1) digits) = ap (fold with_digit n) (drop_more digits i 0 inside) in
    let more = at_least (n * 10 + (get_or digits i 0 - 48)) (drop (i + 1) digits) in
    sym (cond-false _ _ _ (le-ltb (value_of digits) limit (omega arith)))

pub all_read : (limit n i : ℕ) (digits : List ℕ) → fold with_digit n (drop i digits) ≡ value_of digits → length digits ≤ i → n < limit → Some n ≡ if_below limit (value_of digits)
all_read limit n i digits same outside small =
    let value : n ≡ value_of digits = sym (ap (fold with_digit n) (drop_all i digits outside)) ∙ same in
    ap Some value ∙ sym (cond-true _ _ _ (lt-ltb (value_of digits) limit (omega arith)))
