-- What tokens of a class are.
use Rattle.std.proofs.Common.{◌≡◌, ℕ, Bool, true, false, not, cond, ◌&&◌, ◌||◌, nat_eq, nat_lt, List, [], ◌∷◌, ◌++◌, refl, ap, ◌∙◌, subst, arith, ◌⊎◌, inl, inr}
use Rattle.std.proofs.lemmas.Bool.{eqb-true}
use Rattle.module_grammar.proofs.Vocabulary.{is_vocabulary}
use Rattle.module_grammar.specs.Balanced.{IsBalanced, nothing, parens, brackets, braces, is_plain_kind}
use Rattle.module_grammar.specs.Kinds.{Says, kind, symbol_by}
use Rattle.module_grammar.specs.Symbols.{Symbol, Bracket, Brace, balanced, close_brace, close_bracket, close_paren, kind_of, open_paren}
use Rattle.token_context.specs.Brackets.{class_of}
use Rattle.token_context.specs.declared.brackets.Class.TheVariants.{Opens, Closes, Plain, Outside}

-- ---- plain kinds

pub plain_class : (k : ℕ) → is_plain_kind k ≡ true → class_of k ≡ Plain
plain_class k = go (nat_eq k (kind_of open_paren)) (nat_eq k (kind_of close_paren)) (nat_eq k (kind_of (Bracket 0))) (nat_eq k (kind_of close_bracket)) (nat_eq k (kind_of (Brace 0))) (nat_eq k (kind_of close_brace)) (nat_lt k (kind_of balanced))
  where
    go :
        (a b c d e f g : Bool) → (g && not ((a || b) || ((c || d) || (e || f)))) ≡ true
        → cond (a || (c || e)) Opens (cond b (Closes (kind_of open_paren)) (cond d (Closes (kind_of (Bracket 0))) (cond f (Closes (kind_of (Brace 0))) (cond g Plain Outside)))) ≡ Plain
    go a b c d e f false h = cc
    go true b c d e f true h = cc
    go false true c d e f true h = cc
    go false false true d e f true h = cc
    go false false false true e f true h = cc
    go false false false false true f true h = cc
    go false false false false false true true h = cc
    go false false false false false false true h = refl

pub class_plain : (k : ℕ) → class_of k ≡ Plain → is_plain_kind k ≡ true
class_plain k = go (nat_eq k (kind_of open_paren)) (nat_eq k (kind_of close_paren)) (nat_eq k (kind_of (Bracket 0))) (nat_eq k (kind_of close_bracket)) (nat_eq k (kind_of (Brace 0))) (nat_eq k (kind_of close_brace)) (nat_lt k (kind_of balanced))
  where
    go :
        (a b c d e f g : Bool)
        → cond (a || (c || e)) Opens (cond b (Closes (kind_of open_paren)) (cond d (Closes (kind_of (Bracket 0))) (cond f (Closes (kind_of (Brace 0))) (cond g Plain Outside)))) ≡ Plain
        → (g && not ((a || b) || ((c || d) || (e || f)))) ≡ true
    go true b c d e f g h = cc
    go false b true d e f g h = cc
    go false b false d true f g h = cc
    go false true false d false f g h = cc
    go false false false true false f g h = cc
    go false false false false false true g h = cc
    go false false false false false false true h = refl
    go false false false false false false false h = cc

-- ---- pairs

-- a kind that closes what this kind opens
abbrev Pairs : ℕ → ℕ → Type 0
Pairs o c =
    ((o ≡ kind_of open_paren) × (c ≡ kind_of close_paren))
    ⊎ (((o ≡ kind_of (Bracket 0)) × (c ≡ kind_of close_bracket)) ⊎ ((o ≡ kind_of (Brace 0)) × (c ≡ kind_of close_brace)))

closes_one : (o p : ℕ) → Closes p ≡ Closes o → o ≡ p
closes_one o p e = cc

pairs : (o c : ℕ) → class_of c ≡ Closes o → Pairs o c
pairs o c = go (nat_eq c (kind_of open_paren)) (nat_eq c (kind_of close_paren)) (nat_eq c (kind_of (Bracket 0))) (nat_eq c (kind_of close_bracket)) (nat_eq c (kind_of (Brace 0))) (nat_eq c (kind_of close_brace)) (nat_lt c (kind_of balanced)) refl refl refl
  where
    go :
        (x y z u v w g : Bool) → nat_eq c (kind_of close_paren) ≡ y → nat_eq c (kind_of close_bracket) ≡ u → nat_eq c (kind_of close_brace) ≡ w
        → cond (x || (z || v)) Opens (cond y (Closes (kind_of open_paren)) (cond u (Closes (kind_of (Bracket 0))) (cond w (Closes (kind_of (Brace 0))) (cond g Plain Outside)))) ≡ Closes o
        → Pairs o c
    go true y z u v w g p q r h = cc
    go false y true u v w g p q r h = cc
    go false y false u true w g p q r h = cc
    go false true false u false w g p q r h = inl (closes_one o (kind_of open_paren) h, eqb-true c (kind_of close_paren) p)
    go false false false true false w g p q r h = inr (inl (closes_one o (kind_of (Bracket 0)) h, eqb-true c (kind_of close_bracket) q))
    go false false false false false true g p q r h = inr (inr (closes_one o (kind_of (Brace 0)) h, eqb-true c (kind_of close_brace) r))
    go false false false false false false true p q r h = cc
    go false false false false false false false p q r h = cc

-- ---- symbols by their kinds

pub symbol_is : (k : ℕ) (t : Symbol) → kind_of t ≡ k → (c : Says (kind k)) × (symbol_by (kind k) k c ≡ t)
symbol_is k t e = subst (λ j. (c : Says (kind j)) × (symbol_by (kind j) j c ≡ t)) e (is_vocabulary.content t)

-- something balanced between two brackets that pair
pub pair : (o c : Symbol) (inside : List Symbol) → class_of (kind_of c) ≡ Closes (kind_of o) → IsBalanced inside → IsBalanced (o ∷ (inside ++ (c ∷ [])))
pair o c inside e b = go (pairs (kind_of o) (kind_of c) e)
  where
    go : Pairs (kind_of o) (kind_of c) → IsBalanced (o ∷ (inside ++ (c ∷ [])))
    go (inl h) =
        let t = symbol_is (kind_of open_paren) o h.0 in
        let u = symbol_is (kind_of close_paren) c h.1 in
        subst IsBalanced (ap (λ s. s ∷ (inside ++ (close_paren ∷ []))) t.1 ∙ ap (λ s. o ∷ (inside ++ (s ∷ []))) u.1) (parens inside [] b nothing)
    go (inr (inl h)) =
        let t = symbol_is (kind_of (Bracket 0)) o h.0 in
        let u = symbol_is (kind_of close_bracket) c h.1 in
        subst IsBalanced (ap (λ s. s ∷ (inside ++ (close_bracket ∷ []))) t.1 ∙ ap (λ s. o ∷ (inside ++ (s ∷ []))) u.1) (brackets t.0 inside [] b nothing)
    go (inr (inr h)) =
        let t = symbol_is (kind_of (Brace 0)) o h.0 in
        let u = symbol_is (kind_of close_brace) c h.1 in
        subst IsBalanced (ap (λ s. s ∷ (inside ++ (close_brace ∷ []))) t.1 ∙ ap (λ s. o ∷ (inside ++ (s ∷ []))) u.1) (braces t.0 inside [] b nothing)

pub closes_paren : (c : ℕ) → class_of c ≡ Closes (kind_of open_paren) → c ≡ kind_of close_paren
closes_paren c e = go (pairs (kind_of open_paren) c e)
  where
    go : Pairs (kind_of open_paren) c → c ≡ kind_of close_paren
    go (inl h) = h.1
    go (inr (inl h)) = let differ : kind_of open_paren ≡ kind_of (Bracket 0) = h.0 in absurd (omega (arith, differ))
    go (inr (inr h)) = let differ : kind_of open_paren ≡ kind_of (Brace 0) = h.0 in absurd (omega (arith, differ))
