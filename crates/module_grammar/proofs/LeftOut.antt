-- The examples of text that isn't kept.
use Rattle.std.proofs.Common.{◌≡◌, ◌+◌, ℕ, Bool, true, false, not, ◌||◌, nat_eq, nat_lt, cond, List, [], ◌∷◌, ◌++◌, refl, ap, sym, ◌∙◌, arith}
use Rattle.predictive.proofs.GapListing.{both}
use Rattle.module_grammar.specs.AtPlaces.{number_at, width_at}
use Rattle.module_grammar.specs.Balanced.{IsBalanced, nothing, token, parens, brackets, braces, is_brace, is_bracket, is_plain_kind}
use Rattle.module_grammar.specs.GapExamples.{TextsAreLeftOut, count}
use Rattle.module_grammar.specs.Symbols.{Symbol, Numeral, Width, Brace, balanced, close_brace, close_bracket, close_paren, foreign, kind_of, open_paren}

counted : (k : ℕ) (a b : List Symbol) → count k (a ++ b) ≡ count k a + count k b
counted k [] b = let none : count k b ≡ 0 + count k b = omega (arith) in none
counted k (s ∷ a) b =
    let more : count k (a ++ b) ≡ count k a + count k b = counted k a b in
    let here : ℕ = cond (nat_eq (kind_of s) k) 1 0 in
    omega (arith, more)

no_paren : (k : ℕ) → is_plain_kind k ≡ true → (nat_eq k (kind_of open_paren) ≡ false) × (nat_eq k (kind_of close_paren) ≡ false)
no_paren k plain =
    go (nat_eq k (kind_of open_paren)) (nat_eq k (kind_of close_paren)) (both (nat_lt k (kind_of balanced)) _ plain).1
  where
    go : (a b : Bool) → not ((a || b) || (is_bracket k || is_brace k)) ≡ true → (a ≡ false) × (b ≡ false)
    go true b e = cc
    go false true e = cc
    go false false e = (refl, refl)

pairs : (tokens : List Symbol) → IsBalanced tokens → count (kind_of open_paren) tokens ≡ count (kind_of close_paren) tokens
pairs tokens nothing = refl
pairs tokens (token s more plain b) =
    let n = no_paren (kind_of s) plain in
    let rest : count (kind_of open_paren) more ≡ count (kind_of close_paren) more = pairs more b in
    ap (λ b. cond b 1 0 + count (kind_of open_paren) more) n.0
    ∙ ap (λ m. 0 + m) rest
    ∙ ap (λ b. cond b 1 0 + count (kind_of close_paren) more) (sym n.1)
pairs tokens (parens inside more a b) =
    let inner : count (kind_of open_paren) inside ≡ count (kind_of close_paren) inside = pairs inside a in
    let outer : count (kind_of open_paren) more ≡ count (kind_of close_paren) more = pairs more b in
    let opened : count (kind_of open_paren) (inside ++ (close_paren ∷ more)) ≡ count (kind_of open_paren) inside + (0 + count (kind_of open_paren) more) = counted (kind_of open_paren) inside (close_paren ∷ more) in
    let closed : count (kind_of close_paren) (inside ++ (close_paren ∷ more)) ≡ count (kind_of close_paren) inside + (1 + count (kind_of close_paren) more) = counted (kind_of close_paren) inside (close_paren ∷ more) in
    omega (arith, inner, outer, opened, closed)
pairs tokens (brackets at inside more a b) =
    let inner : count (kind_of open_paren) inside ≡ count (kind_of close_paren) inside = pairs inside a in
    let outer : count (kind_of open_paren) more ≡ count (kind_of close_paren) more = pairs more b in
    let opened : count (kind_of open_paren) (inside ++ (close_bracket ∷ more)) ≡ count (kind_of open_paren) inside + (0 + count (kind_of open_paren) more) = counted (kind_of open_paren) inside (close_bracket ∷ more) in
    let closed : count (kind_of close_paren) (inside ++ (close_bracket ∷ more)) ≡ count (kind_of close_paren) inside + (0 + count (kind_of close_paren) more) = counted (kind_of close_paren) inside (close_bracket ∷ more) in
    omega (arith, inner, outer, opened, closed)
pairs tokens (braces at inside more a b) =
    let inner : count (kind_of open_paren) inside ≡ count (kind_of close_paren) inside = pairs inside a in
    let outer : count (kind_of open_paren) more ≡ count (kind_of close_paren) more = pairs more b in
    let opened : count (kind_of open_paren) (inside ++ (close_brace ∷ more)) ≡ count (kind_of open_paren) inside + (0 + count (kind_of open_paren) more) = counted (kind_of open_paren) inside (close_brace ∷ more) in
    let closed : count (kind_of close_paren) (inside ++ (close_brace ∷ more)) ≡ count (kind_of close_paren) inside + (0 + count (kind_of close_paren) more) = counted (kind_of close_paren) inside (close_brace ∷ more) in
    omega (arith, inner, outer, opened, closed)

pub texts_are_left_out : TextsAreLeftOut
texts_are_left_out = record {
  none = (_, refl, (_, refl, ([], _, refl, nothing, (_, refl, refl))));
  some = (
    _,
    refl,
    (
      _,
      refl,
      (
        Width (width_at 8 2 4) ∷ Numeral (number_at 7 5 6) ∷ [],
        _,
        refl,
        token (Width (width_at 8 2 4)) (Numeral (number_at 7 5 6) ∷ []) refl (token (Numeral (number_at 7 5 6)) [] refl nothing),
        (_, refl, refl),
      ),
    ),
  );
  nested = (
    _,
    refl,
    (
      _,
      refl,
      (
        foreign ∷ open_paren ∷ Brace 8 ∷ close_brace ∷ close_paren ∷ [],
        _,
        refl,
        token foreign (open_paren ∷ Brace 8 ∷ close_brace ∷ close_paren ∷ []) refl
            (parens (Brace 8 ∷ close_brace ∷ []) [] (braces 8 [] [] nothing nothing) nothing),
        (_, refl, refl),
      ),
    ),
  );
  pairs = pairs;
  unpaired = λ b. let same : 1 + 0 ≡ 0 + 0 = pairs (open_paren ∷ []) b in absurd (omega (arith, same));
}
