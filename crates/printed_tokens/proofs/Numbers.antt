-- A printed number is one token, which is that number; at a type it may be `true` or `false`, or the negative one that is kept as it.
use Rattle.std.proofs.Common.{◌≡◌, ℕ, ◌-◌, ◌%◌, ◌^◌, ◌<◌, ◌≤◌, Bool, true, false, List, [], ◌∷◌, Some, arith, refl, ap, sym, ◌∙◌, subst}
use Rattle.std.specs.Prelude.{◌==◌, nat_le, nat_lt, if◌then◌else◌}
use Rattle.std.specs.Fmt.{decimal}
use Rattle.std.proofs.Math.Nat.{mod-eq_of_lt}
use Rattle.std.proofs.Math.Pow.{pow_mono}
use Rattle.std.proofs.lemmas.Bool.{and_parts, cond_both, cond-true, eqb-true, leb-true, le-leb, lt-ltb, ltb-true}
use Rattle.std.proofs.lemmas.Bool.Decides.{nat_tests}
use Rattle.ir_types.specs.declared.ty.Ty.{Ty}
use Rattle.ir_types.specs.declared.ty.Ty.TheVariants.{Int}
use Rattle.ir_types.specs.declared.ty.Ty.TheViews.{outs-Int}
use Rattle.ir_types.proofs.Induction as fold
use Rattle.ir_core.specs.declared.operands.Const.TheVariants as const
use Rattle.ir_core.specs.Ranges.{is_written, written_at_level}
use Rattle.ir_core.specs.Types.{constant_fits, is_width}
use Rattle.ir_core.specs.Words as words
use Rattle.ir_lexer.specs.declared.token.Number.{Number}
use Rattle.ir_lexer.specs.declared.token.TokenKind.TheVariants as kind
use Rattle.module_grammar.specs.declared.constants.IntText.{IntText}
use Rattle.module_grammar.specs.declared.constants.IntText.TheVariants as integer
use Rattle.module_grammar.specs.declared.places.Placed.{Placed}
use Rattle.module_grammar.specs.declared.words.Language.{Language}
use Rattle.module_grammar.specs.Constants as write
use Rattle.module_grammar.specs.Symbols.{Numeral}
use Rattle.named_modules.specs.Types.{int_at_level, int_of, int_of_width, kept}
use Rattle.ir_printer.specs.ExpressionPrinter.Printed.{is_negative, number_text, signed_text}
use Rattle.ir_printer.proofs.ExpressionPrinter.Powers.{power_is_two_halves}
use Rattle.printed_tokens.proofs.Decimals.{decimal_means}
use Rattle.printed_tokens.proofs.Prints.{Prints, one_token}
use Rattle.printed_tokens.proofs.ReadTexts.{Reads, Stops}
use Rattle.printed_tokens.proofs.ReadTexts as reads
use Rattle.printed_tokens.proofs.Runs.{negative, positive}
use Rattle.printed_tokens.proofs.TokenWords as kinds
use Rattle.printed_tokens.proofs.WordSymbols.{at_any, truth_is, truth_said, truth_text}

-- ---- widths

pub at_least_one : (w : ℕ) → is_width w ≡ true → 0 < w
at_least_one w is = omega (arith, leb-true 1 w (and_parts _ _ is).0)

pub at_most_64 : (w : ℕ) → is_width w ≡ true → w ≤ 64
at_most_64 w is = leb-true w 64 (and_parts _ _ is).1

power_small : (w : ℕ) → is_width w ≡ true → 2 ^ w ≤ 2 ^ 64
power_small w is = pow_mono {i = w} {j = 64} (at_most_64 w is)

-- ---- tokens

-- a number without a sign
abbrev pub unsigned : ℕ → Number
unsigned n = record { negative = false; magnitude = n }

positive_reads : (n : ℕ) → n < 2 ^ 64 → Reads Stops (decimal n) (kinds.alone (kind.Number (unsigned n)) ∷ [])
positive_reads n small = record {
  lexes = λ rest more stop lexes. positive n (decimal n) rest more (decimal_means n small) (omega arith) stop lexes;
}

negative_reads : (n : ℕ) → n < 2 ^ 64 → Reads Stops (45 ∷ decimal n) (kinds.alone (kind.Number (record { negative = true; magnitude = n })) ∷ [])
negative_reads n small = record {
  lexes = λ rest more stop lexes. negative n (decimal n) rest more (decimal_means n small) (omega arith) stop lexes;
}

-- ---- what is kept at a width

positive_kept : (w n : ℕ) → n < 2 ^ w → kept w (unsigned n) ≡ Some n
positive_kept w n small = cond-true _ _ _ (lt-ltb n (2 ^ w) small)

negative_kept : (w n : ℕ) → is_width w ≡ true → 2 ^ (w - 1) ≤ n → n < 2 ^ w → kept w (record { negative = true; magnitude = 2 ^ w - n }) ≡ Some n
negative_kept w n is large small =
    let halves = power_is_two_halves w (at_least_one w is) in
    let within : 2 ^ w - n ≤ 2 ^ (w - 1) = omega (arith, halves) in
    let back : 2 ^ w - (2 ^ w - n) ≡ n = omega arith in
    cond-true _ _ _ (le-leb (2 ^ w - n) (2 ^ (w - 1)) within)
    ∙ ap (λ m. Some (m % 2 ^ w)) back
    ∙ ap Some (mod-eq_of_lt small)

at_width : (w n : ℕ) (i : IntText) → is_width w ≡ true → int_of_width w i ≡ Some n → int_of (Int w) i ≡ Some n
at_width w n i is found = ap (λ level. int_at_level level i) (outs-Int w) ∙ cond-true (is_width w) _ _ is ∙ found

one_of_bit : (n : ℕ) → n < 2 ^ 1 → (n == 0) ≡ false → 1 ≡ n
one_of_bit n small other = grind (arith, nat_tests)

module _ (language : Language) where
  -- digits alone, as of a count
  pub numeral : (n : ℕ) → n < 2 ^ 64 → Prints language Stops (λ w. Numeral w ∷ []) (λ (w : Placed Number). w.what ≡ unsigned n) (decimal n)
  numeral n small =
      one_token language Stops (λ w. Numeral w ∷ []) (λ (w : Placed Number). w.what ≡ unsigned n) (decimal n) (kinds.alone (kind.Number (unsigned n)))
      (λ start end. record { what = unsigned n; start = start; end = end }) (positive_reads n small) (λ i j. refl) (λ i j. refl)

  -- the text is such a number of the type
  abbrev pub PrintsNumber : Ty → ℕ → List ℕ → Type 0
  PrintsNumber t n bytes = Prints language Stops (λ (i : IntText). write.int i ∷ []) (λ (i : IntText). int_of t i ≡ Some n) bytes

  -- a number that is kept as this one
  kept_number : (w n : ℕ) (token : Number) (bytes : List ℕ) → is_width w ≡ true → kept w token ≡ Some n → Reads Stops bytes (kinds.alone (kind.Number token) ∷ []) → PrintsNumber (Int w) n bytes
  kept_number w n token bytes width is lexes =
      one_token language Stops (λ (i : IntText). write.int i ∷ []) (λ (i : IntText). int_of (Int w) i ≡ Some n) bytes (kinds.alone (kind.Number token))
      (λ start end. integer.Number (record { what = token; start = start; end = end })) lexes (λ i j. refl)
      (λ i j. at_width w n (integer.Number (record { what = token; start = i; end = j })) width is)

  signed_number : (w n : ℕ) → is_width w ≡ true → n < 2 ^ w → PrintsNumber (Int w) n (signed_text w n)
  signed_number w n is small =
      cond_both (is_negative w n) (45 ∷ decimal (2 ^ w - n)) (decimal n) (PrintsNumber (Int w) n)
      (λ below.
      let large = leb-true (2 ^ (w - 1)) n (and_parts (nat_le (2 ^ (w - 1)) n) (nat_lt n (2 ^ w)) below).0 in
      let halves = power_is_two_halves w (at_least_one w is) in
      let fits : 2 ^ w - n < 2 ^ 64 = omega (arith, power_small w is, halves) in
      kept_number w n (record { negative = true; magnitude = 2 ^ w - n }) (45 ∷ decimal (2 ^ w - n)) is (negative_kept w n is large small)
      (negative_reads (2 ^ w - n) fits))
      (λ _.
      let fits : n < 2 ^ 64 = omega (arith, power_small w is) in
      kept_number w n (unsigned n) (decimal n) is (positive_kept w n small) (positive_reads n fits))

  -- `true` or `false`, which is this number
  truth_number : (w n : ℕ) (b : Bool) → is_width w ≡ true → ((i j : ℕ) → int_of_width w (integer.Truth (record { what = b; start = i; end = j })) ≡ Some n) → PrintsNumber (Int w) n (truth_text b)
  truth_number w n b width found =
      one_token language Stops (λ (i : IntText). write.int i ∷ []) (λ (i : IntText). int_of (Int w) i ≡ Some n) (truth_text b) (kinds.word (truth_text b))
      (λ start end. integer.Truth (record { what = b; start = start; end = end })) (reads.word (truth_text b) (truth_is b))
      (λ i j. ap (λ s. s ∷ []) (at_any language (truth_text b) _ (truth_said language b) i j))
      (λ i j. at_width w n (integer.Truth (record { what = b; start = i; end = j })) width (found i j))

  bit_number : (w n : ℕ) → is_width w ≡ true → (w == 1) ≡ true → n < 2 ^ w → PrintsNumber (Int w) n (if n == 0 then words.false_word else words.true_word)
  bit_number w n is one small =
      cond_both (n == 0) words.false_word words.true_word (PrintsNumber (Int w) n)
      (λ zero. truth_number w n false is (λ i j. cond-true (w == 1) _ _ one ∙ ap Some (sym (eqb-true n 0 zero))))
      (λ other. truth_number w n true is
      (λ i j. cond-true (w == 1) _ _ one ∙ ap Some (one_of_bit n (subst (λ v. n < 2 ^ v) (eqb-true w 1 one) small) other)))

  fitting_number : (w n : ℕ) → is_width w ≡ true → n < 2 ^ w → PrintsNumber (Int w) n (number_text (Int w) n)
  fitting_number w n is small =
      cond_both (w == 1) (if n == 0 then words.false_word else words.true_word) (signed_text w n) (PrintsNumber (Int w) n)
      (λ one. bit_number w n is one small)
      (λ _. signed_number w n is small)

  pub int : (t : Ty) (n : ℕ) → is_written t ≡ true → constant_fits t (const.Number n) ≡ true → PrintsNumber t n (number_text t n)
  int (Int w) n written fits = fitting_number w n (sym (fold.at_int Bool written_at_level w) ∙ written) (ltb-true n (2 ^ w) fits)
  int t n written fits = absurd (cc)
