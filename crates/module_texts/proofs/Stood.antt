-- What tokens stand for is one, and names stand at the places of their tokens, each alone at its own.
use Rattle.std.proofs.Common.{◌≡◌, ◌+◌, ◌-◌, ◌≤◌, ◌==◌, ℕ, List, [], ◌∷◌, ◌++◌, map, get_or, inl, inr, refl, ap, sym, ◌∙◌, subst, arith}
use Rattle.std.proofs.lemmas.Bool.{cond_both}
use Rattle.ir_core.specs.Functions.{is_debug}
use Rattle.ir_lexer.specs.Cut.{Placed}
use Rattle.ir_lexer.specs.declared.token.TokenKind.{TokenKind}
use Rattle.ir_lexer.specs.declared.token.TokenKind.TheVariants as kind
use Rattle.ir_types.specs.declared.names.Name.{Name}
use Rattle.module_grammar.specs.Spelled.{at, global_symbol, mark_symbol, symbol, symbol_at, text_symbol, word_symbol}
use Rattle.module_grammar.specs.Symbols.{Symbol, Brace, Bracket, Bytes, Debug, Global, Star, close_brace, close_bracket, close_paren, comma, equals, foreign, kind_of, open_paren, string}
use Rattle.module_grammar.specs.Words.{word_of}
use Rattle.module_grammar.specs.declared.words.Language.TheVariants.{Ir}
use Rattle.module_grammar.specs.declared.words.Word.{Word}
use Rattle.module_grammar.specs.declared.words.Word.TheVariants as word
use Rattle.module_spelling.specs.Context.{AreBehind, IsUndeclared, IsUnstated, StandFor, StandsFor, Unless, UnlessAddr}
use Rattle.module_texts.proofs.Starts.{AreFrom}

-- ---- what tokens stand for

unless_one : (P : Type 0) (s t u : Symbol) → Unless P s t → Unless P s u → t ≡ u
unless_one P s t u (inl a) (inl b) = a.1 ∙ sym b.1
unless_one P s t u (inl a) (inr b) = absurd (a.0 b.0)
unless_one P s t u (inr a) (inl b) = absurd (b.0 a.0)
unless_one P s t u (inr a) (inr b) = a.1 ∙ sym b.1

unless_addr_one : (P : Type 0) (k : ℕ) (s t u : Symbol) → UnlessAddr P k s t → UnlessAddr P k s u → t ≡ u
unless_addr_one P k s t u (inl a) (inl b) = unless_one P s t u a.1 b.1
unless_addr_one P k s t u (inl a) (inr b) = absurd (b.0 a.0)
unless_addr_one P k s t u (inr a) (inl b) = absurd (a.0 b.0)
unless_addr_one P k s t u (inr a) (inr b) = a.1 ∙ sym b.1

one : (before : List Symbol) (s t u : Symbol) → StandsFor before s t → StandsFor before s u → t ≡ u
one before (Global x) t u a b = unless_one (IsUnstated before) (Global x) t u a b
one before s t u a b = unless_addr_one (IsUndeclared before) (kind_of s) s t u a b

all_one : (before ss ts us : List Symbol) → AreBehind before ss ts → AreBehind before ss us → ts ≡ us
all_one before [] [] [] a b = refl
all_one before [] (t ∷ ts) us a b = absurd a
all_one before [] [] (u ∷ us) a b = absurd b
all_one before (s ∷ ss) [] us a b = absurd a
all_one before (s ∷ ss) (t ∷ ts) [] a b = absurd b
all_one before (s ∷ ss) (t ∷ ts) (u ∷ us) a b =
    ap (λ h. h ∷ ts) (one before s t u a.0 b.0) ∙ ap (λ l. u ∷ l) (all_one (s ∷ before) ss ts us a.1 b.1)

pub stand_for_one : (ss ts us : List Symbol) → StandFor ss ts → StandFor ss us → ts ≡ us
stand_for_one ss ts us a b = all_one [] ss ts us a b

-- ---- places

-- a global name that begins there
abbrev pub IsAt : Symbol → ℕ → Type 0
IsAt (Global x) p = x.start ≡ p
IsAt (Debug x) p = x.start ≡ p
IsAt s p = ⊥

unless_at : (P : Type 0) (s t : Symbol) (p : ℕ) → Unless P s t → IsAt t p → IsAt s p
unless_at P s t p (inl a) is = subst (λ s. IsAt s p) a.1 is
unless_at P s t p (inr a) is = let none : IsAt foreign p = subst (λ s. IsAt s p) a.1 is in absurd none

unless_addr_at : (P : Type 0) (k : ℕ) (s t : Symbol) (p : ℕ) → UnlessAddr P k s t → IsAt t p → IsAt s p
unless_addr_at P k s t p (inl a) is = unless_at P s t p a.1 is
unless_addr_at P k s t p (inr a) is = subst (λ s. IsAt s p) a.1 is

own_at : (before : List Symbol) (s t : Symbol) (p : ℕ) → StandsFor before s t → IsAt t p → IsAt s p
own_at before (Global x) t p a is = unless_at (IsUnstated before) (Global x) t p a is
own_at before s t p a is = unless_addr_at (IsUndeclared before) (kind_of s) s t p a is

-- a token's symbol is no name, or one where the token begins
abbrev Begins : ℕ → Symbol → Type 0
Begins start s = (p : ℕ) → IsAt s p → start ≡ p

word_begins : (w : Word) (start end : ℕ) → Begins start (word_symbol w start end)
word_begins (word.Width n) start end p is = absurd is
word_begins (word.Truth b) start end p is = absurd is
word_begins (word.Overflow op) start end p is = absurd is
word_begins (word.Exact op) start end p is = absurd is
word_begins (word.Plain op) start end p is = absurd is
word_begins (word.Resize op) start end p is = absurd is
word_begins (word.Pred pred) start end p is = absurd is
word_begins (word.Flag flag) start end p is = absurd is
word_begins (word.Linkage linkage) start end p is = absurd is
word_begins (word.Extension extension) start end p is = absurd is
word_begins (word.Holding holding) start end p is = absurd is
word_begins word.Null start end p is = absurd is
word_begins word.Element start end p is = absurd is
word_begins word.BitCast start end p is = absurd is
word_begins (word.Key k) start end p is = absurd is
word_begins word.Foreign start end p is = absurd is

mark_begins : (b start : ℕ) → Begins start (mark_symbol b start)
unfolding mark_symbol
mark_begins b start =
    cond_both (b == 44) comma _ (Begins start) (λ yes p is. absurd is)
    (λ no. cond_both (b == 61) equals _ (Begins start) (λ yes p is. absurd is)
    (λ no. cond_both (b == 40) open_paren _ (Begins start) (λ yes p is. absurd is)
    (λ no. cond_both (b == 41) close_paren _ (Begins start) (λ yes p is. absurd is)
    (λ no. cond_both (b == 123) (Brace start) _ (Begins start) (λ yes p is. absurd is)
    (λ no. cond_both (b == 125) close_brace _ (Begins start) (λ yes p is. absurd is)
    (λ no. cond_both (b == 91) (Bracket start) _ (Begins start) (λ yes p is. absurd is)
    (λ no. cond_both (b == 93) close_bracket _ (Begins start) (λ yes p is. absurd is)
    (λ no. cond_both (b == 42) (Star start) foreign (Begins start) (λ yes p is. absurd is) (λ no p is. absurd is)))))))))

global_begins : (x : Name) (start end : ℕ) → Begins start (global_symbol x start end)
global_begins x start end = cond_both (is_debug x) (Debug (at x start end)) (Global (at x start end)) (Begins start) (λ yes p is. is) (λ no p is. is)

text_begins : (text bytes : List ℕ) (start end : ℕ) → Begins start (text_symbol text bytes start end)
text_begins text bytes start end =
    cond_both (get_or text (start - 1) 0 == 99) (Bytes (at bytes start end)) string (Begins start) (λ yes p is. absurd is) (λ no p is. absurd is)

token_begins : (text : List ℕ) (k : TokenKind) (start end : ℕ) → Begins start (symbol_at Ir text k start end)
token_begins text (kind.Local x) start end p is = absurd is
token_begins text (kind.Global x) start end p is = global_begins x start end p is
token_begins text (kind.Attribute digits) start end p is = absurd is
token_begins text kind.Bang start end p is = absurd is
token_begins text (kind.Metadata run) start end p is = absurd is
token_begins text (kind.Label x) start end p is = absurd is
token_begins text kind.Dots start end p is = absurd is
token_begins text (kind.Number n) start end p is = absurd is
token_begins text (kind.Word w) start end p is = word_begins (word_of Ir w) start end p is
token_begins text (kind.Text bytes) start end p is = text_begins text bytes start end p is
token_begins text (kind.Mark b) start end p is = mark_begins b start p is

-- ---- one name at a place

module _ (text : List ℕ) where
  abbrev own : List Placed → List Symbol
  own tokens = map (symbol Ir text) tokens

  begins_at : (before : List Symbol) (t : Placed) (s : Symbol) (p : ℕ) → StandsFor before (symbol Ir text t) s → IsAt s p → t.start ≡ p
  begins_at before t s p a is = token_begins text t.kind t.start t.end p (own_at before (symbol Ir text t) s p a is)

  -- a name that stands among them begins no sooner than they do
  no_sooner : (n : ℕ) (before : List Symbol) (tokens : List Placed) (symbols xs ys : List Symbol) (s : Symbol) (p : ℕ) → AreFrom n tokens → AreBehind before (own tokens) symbols → symbols ≡ xs ++ (s ∷ ys) → IsAt s p → n ≤ p
  no_sooner n before [] [] [] ys s p from stand e is = cc
  no_sooner n before [] [] (x ∷ xs) ys s p from stand e is = cc
  no_sooner n before [] (u ∷ us) xs ys s p from stand e is = absurd stand
  no_sooner n before (t ∷ ts) [] xs ys s p from stand e is = absurd stand
  no_sooner n before (t ∷ ts) (u ∷ us) [] ys s p from stand e is =
      let same : s ≡ u = cc in
      let here = begins_at before t u p stand.0 (subst (λ s. IsAt s p) same is) in
      omega (arith, from.0, here)
  no_sooner n before (t ∷ ts) (u ∷ us) (x ∷ xs) ys s p from stand e is =
      let rest : us ≡ xs ++ (s ∷ ys) = cc in
      let later = no_sooner (t.start + 1) (symbol Ir text t ∷ before) ts us xs ys s p from.1 stand.1 rest is in
      omega (arith, from.0, later)

  not_again : (n : ℕ) (before : List Symbol) (t : Placed) (ts : List Placed) (u : Symbol) (us xs ys : List Symbol) (s : Symbol) (p : ℕ) → AreFrom n (t ∷ ts) → AreBehind before (own (t ∷ ts)) (u ∷ us) → us ≡ xs ++ (s ∷ ys) → IsAt u p → IsAt s p → ⊥
  not_again n before t ts u us xs ys s p from stand e first again =
      let here = begins_at before t u p stand.0 first in
      let later = no_sooner (t.start + 1) (symbol Ir text t ∷ before) ts us xs ys s p from.1 stand.1 e again in
      omega (arith, here, later)

  -- two names at one place have the same in front and behind
  pub one_place :
      (n : ℕ) (before : List Symbol) (tokens : List Placed) (symbols : List Symbol) → AreFrom n tokens → AreBehind before (own tokens) symbols
      → (xs ys vs ws : List Symbol) (s r : Symbol) (p : ℕ) → symbols ≡ xs ++ (s ∷ ys) → symbols ≡ vs ++ (r ∷ ws) → IsAt s p → IsAt r p
      → (xs ≡ vs) × (s ∷ ys ≡ r ∷ ws)
  one_place n before [] [] from stand [] ys vs ws s r p e d is at = cc
  one_place n before [] [] from stand (x ∷ xs) ys vs ws s r p e d is at = cc
  one_place n before [] (u ∷ us) from stand xs ys vs ws s r p e d is at = absurd stand
  one_place n before (t ∷ ts) [] from stand xs ys vs ws s r p e d is at = absurd stand
  one_place n before (t ∷ ts) (u ∷ us) from stand [] ys [] ws s r p e d is at = (refl, sym e ∙ d)
  one_place n before (t ∷ ts) (u ∷ us) from stand [] ys (v ∷ vs) ws s r p e d is at =
      let same : s ≡ u = cc in
      let rest : us ≡ vs ++ (r ∷ ws) = cc in
      absurd (not_again n before t ts u us vs ws r p from stand rest (subst (λ s. IsAt s p) same is) at)
  one_place n before (t ∷ ts) (u ∷ us) from stand (x ∷ xs) ys [] ws s r p e d is at =
      let same : r ≡ u = cc in
      let rest : us ≡ xs ++ (s ∷ ys) = cc in
      absurd (not_again n before t ts u us xs ys s p from stand rest (subst (λ s. IsAt s p) same at) is)
  one_place n before (t ∷ ts) (u ∷ us) from stand (x ∷ xs) ys (v ∷ vs) ws s r p e d is at =
      let first : x ≡ v = cc in
      let left : us ≡ xs ++ (s ∷ ys) = cc in
      let right : us ≡ vs ++ (r ∷ ws) = cc in
      let rest = one_place (t.start + 1) (symbol Ir text t ∷ before) ts us from.1 stand.1 xs ys vs ws s r p left right is at in
      (ap (λ h. h ∷ xs) first ∙ ap (λ l. v ∷ l) rest.0, rest.1)
