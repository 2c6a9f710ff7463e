-- Where names begin.
use Rattle.std.proofs.Common.{◌≡◌, ◌≤◌, ◌<◌, ℕ, zero, suc, ◌+◌, ◌-◌, ◌==◌, Bool, cond, true, false, nat_eq, List, [], ◌∷◌, ◌++◌, length, map, get_or, refl, ap, sym, ◌∙◌, subst, ◌⊎◌, inl, inr, arith}
use Rattle.std.proofs.lemmas.Bool.{cases_order}
use Rattle.std.proofs.lemmas.List.{length-append}
use Rattle.ir_core.specs.Functions.{is_debug}
use Rattle.ir_lexer.specs.Cut.{AreInOrder}
use Rattle.ir_lexer.specs.Said.{said_in}
use Rattle.ir_lexer.specs.declared.token.Token.{Token}
use Rattle.ir_lexer.specs.declared.token.TokenKind.{TokenKind}
use Rattle.ir_lexer.specs.declared.token.TokenKind.TheVariants as said
use Rattle.module_grammar.specs.Spelled.{at, mark_symbol, symbol_at, symbol_in, word_symbol}
use Rattle.module_grammar.specs.Symbols.{Symbol, Bytes, Debug, Global, foreign, string}
use Rattle.module_grammar.specs.Words.{word_of}
use Rattle.module_grammar.specs.declared.words.Language.TheVariants.{Ir}
use Rattle.module_grammar.specs.declared.words.Word.{Word}
use Rattle.module_grammar.specs.declared.words.Word.TheVariants as word
use Rattle.module_spelling.specs.Context.{AreBehind}
use Rattle.token_context.specs.NameSurroundings.Between.{start_at, start_of}
use Rattle.token_context.proofs.NameSurroundings.Own.{around, as_many, itself}
use Rattle.token_context.proofs.NameSurroundings.Parts.{get_at, images}

-- ---- tokens in order

at_or_behind : (from to : ℕ) (tokens : List Token) → AreInOrder from to tokens → (i : ℕ) → i < length tokens → from ≤ start_at tokens i
at_or_behind from to [] h i w = absurd (grind arith)
at_or_behind from to (t ∷ tokens) h zero w = h.0
at_or_behind from to (t ∷ tokens) h (suc i) w =
    let next = at_or_behind t.end to tokens h.2 i (grind arith) in
    let first = h.0 in
    let bytes = h.1 in
    omega (arith, next, first, bytes)

pub in_order : (from to : ℕ) (tokens : List Token) → AreInOrder from to tokens → (i j : ℕ) → i < j → j < length tokens → start_at tokens i < start_at tokens j
in_order from to [] h i j less w = absurd (grind arith)
in_order from to (t ∷ tokens) h i zero less w = absurd (omega arith)
in_order from to (t ∷ tokens) h zero (suc j) less w =
    let next = at_or_behind t.end to tokens h.2 j (grind arith) in
    let bytes = h.1 in
    omega (arith, next, bytes)
in_order from to (t ∷ tokens) h (suc i) (suc j) less w = in_order t.end to tokens h.2 i j (omega arith) (grind arith)

pub one_start :
    (from to : ℕ) (tokens : List Token) → AreInOrder from to tokens → (i j : ℕ) → i < length tokens → j < length tokens → start_at tokens i ≡ start_at tokens j → i ≡ j
one_start from to tokens h i j v w e = go (cases_order i j)
  where
    go : (i ≡ j) ⊎ ((i < j) ⊎ (j < i)) → i ≡ j
    go (inl same) = same
    go (inr (inl less)) = let order = in_order from to tokens h i j less w in absurd (omega (arith, order, e))
    go (inr (inr more)) = let order = in_order from to tokens h j i more v in absurd (omega (arith, order, e))

-- ---- names

-- a name begins there
abbrev pub Begins : Symbol → ℕ → Type 0
Begins (Global x) n = x.start ≡ n
Begins (Debug x) n = x.start ≡ n
Begins s n = Unit {0}

one_of : (b : Bool) (s t : Symbol) (n : ℕ) → Begins s n → Begins t n → Begins (cond b s t) n
one_of true s t n h k = h
one_of false s t n h k = k

of_word : (w : Word) (start end : ℕ) → Begins (word_symbol w start end) start
of_word (word.Width n) start end = tt
of_word (word.Truth b) start end = tt
of_word (word.Overflow op) start end = tt
of_word (word.Exact op) start end = tt
of_word (word.Plain op) start end = tt
of_word (word.Resize op) start end = tt
of_word (word.Pred pred) start end = tt
of_word (word.Flag flag) start end = tt
of_word (word.Linkage linkage) start end = tt
of_word (word.Extension extension) start end = tt
of_word (word.Holding holding) start end = tt
of_word word.Null start end = tt
of_word word.Element start end = tt
of_word word.BitCast start end = tt
of_word (word.Key k) start end = tt
of_word word.Foreign start end = tt

of_mark : (b start : ℕ) → Begins (mark_symbol b start) start
unfolding mark_symbol
of_mark b start =
    one_of (nat_eq b 44) _ _ start tt
    (one_of (nat_eq b 61) _ _ start tt
    (one_of (nat_eq b 40) _ _ start tt
    (one_of (nat_eq b 41) _ _ start tt
    (one_of (nat_eq b 123) _ _ start tt
    (one_of (nat_eq b 125) _ _ start tt
    (one_of (nat_eq b 91) _ _ start tt
    (one_of (nat_eq b 93) _ _ start tt
    (one_of (nat_eq b 42) _ _ start tt tt))))))))

of_said : (text : List ℕ) (t : TokenKind) (start end : ℕ) → Begins (symbol_at Ir text t start end) start
of_said text (said.Local name) start end = tt
of_said text (said.Global name) start end = one_of (is_debug name) _ _ start refl refl
of_said text (said.Attribute digits) start end = tt
of_said text said.Bang start end = tt
of_said text (said.Metadata run) start end = tt
of_said text (said.Label name) start end = tt
of_said text said.Dots start end = tt
of_said text (said.Number number) start end = tt
of_said text (said.Word w) start end = of_word (word_of Ir w) start end
of_said text (said.Text bytes) start end = one_of (get_or text (start - 1) 0 == 99) (Bytes (at bytes start end)) string start tt tt
of_said text (said.Mark b) start end = of_mark b start

-- a token that isn't none of the grammar, by its index
pub begins_at :
    (text : List ℕ) (tokens : List Token) (before front behind : List Symbol) (t : Symbol) → (t ≡ foreign → ⊥)
    → AreBehind before (map (symbol_in Ir text) tokens) (front ++ (t ∷ behind)) → Begins t (start_at tokens (length front)) × (length front < length tokens)
begins_at text tokens before front behind t other h =
    let a = around before (map (symbol_in Ir text) tokens) front behind t h in
    let own : a.token ≡ t = itself _ a.token t a.stands other in
    let d = images (symbol_in Ir text) a.front (a.token ∷ a.back) tokens a.same in
    go d.front d.back d.all d.of_front d.of_back own (as_many before a.front front a.in_front)
  where
    go :
        {own_front : List Symbol} {own : Symbol} {back : List Symbol} (first last : List Token) → tokens ≡ first ++ last → map (symbol_in Ir text) first ≡ own_front
        → map (symbol_in Ir text) last ≡ own ∷ back → own ≡ t → length own_front ≡ length front → Begins t (start_at tokens (length front)) × (length front < length tokens)
    go first [] all f e is n = cc
    go first (token ∷ more) all f e is n =
        let here : symbol_in Ir text token ≡ t = cc in
        let count : length (map (symbol_in Ir text) first) ≡ length first = lengths first in
        let long : length first ≡ length front = sym count ∙ ap length f ∙ n in
        let whole : length tokens ≡ length (first ++ (token ∷ more)) = ap length all in
        let parts : length (first ++ (token ∷ more)) ≡ length first + suc (length more) = length-append first (token ∷ more) in
        let start : start_at tokens (length front) ≡ token.start =
        ap (λ l. start_at l (length front)) all ∙ ap (λ i. start_at (first ++ (token ∷ more)) i) (sym long) ∙ get_at start_of first more token in (
          subst (λ s. Begins s (start_at tokens (length front))) here (subst (λ i. Begins (symbol_in Ir text token) i) (sym start) (of_said text (said_in text token) token.start token.end)),
          omega (arith, long, whole, parts),
        )
      where
        lengths : (ts : List Token) → length (map (symbol_in Ir text) ts) ≡ length ts
        lengths [] = refl
        lengths (u ∷ us) = ap suc (lengths us)
