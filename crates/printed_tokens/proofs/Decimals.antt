-- The decimal digits of a number are digits, and mean it.
use Rattle.std.proofs.Common.{◌≡◌, ℕ, ◌+◌, ◌/◌, ◌%◌, ◌^◌, ◌<◌, ◌≤◌, true, List, [], ◌∷◌, ◌++◌, length, length-append, arith, refl, ◌∙◌}
use Rattle.std.specs.List.{list_all}
use Rattle.std.specs.Char.{is_ascii_digit}
use Rattle.std.specs.Fmt.{decimal}
use Rattle.std.proofs.lemmas.Bool.{and_from}
use Rattle.std.proofs.lemmas.Bool.Decides.{nat_tests}
use Rattle.std.proofs.lemmas.Fmt.{decimal_by_steps}
use Rattle.std.proofs.lemmas.List.Folds.{list_all-append}
use Rattle.std.proofs.lemmas.List.Sums.{fold-append}
use Rattle.ir_lexer.specs.Numbers.{with_digit, value_of}

pub record IsDecimal (n : ℕ) (digits : List ℕ) : Type 0 where
  pub all : list_all is_ascii_digit digits ≡ true
  pub some : 0 < length digits
  pub value : value_of digits ≡ n

digit : (n : ℕ) → n < 10 → is_ascii_digit (48 + n) ≡ true
digit n small = grind (arith, nat_tests)

one : (n : ℕ) → n < 10 → IsDecimal n ((48 + n) ∷ [])
one n small = record { all = and_from _ _ (digit n small) refl; some = omega arith; value = omega arith }

more : (n : ℕ) (digits : List ℕ) → 10 ≤ n → IsDecimal (n / 10) digits → IsDecimal n (digits ++ ((48 + n % 10) ∷ []))
more n digits large front =
    let last : n % 10 < 10 = omega arith in
    let is = front.value in
    record {
      all = list_all-append is_ascii_digit digits ((48 + n % 10) ∷ []) ∙ and_from _ _ front.all (and_from _ _ (digit (n % 10) last) refl);
      some = omega (arith, length-append digits ((48 + n % 10) ∷ []));
      value = fold-append with_digit 0 digits ((48 + n % 10) ∷ []) ∙ omega arith;
    }

pub decimal_means : (n : ℕ) → n < 2 ^ 64 → IsDecimal n (decimal n)
decimal_means n small = decimal_by_steps IsDecimal one more n small
