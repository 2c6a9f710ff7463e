-- The symbols that are written of a tree are in range where those of a text of bytes are.
use Rattle.std.proofs.Common.{◌≡◌, ℕ, Bool, true, false, cond, List, [], ◌∷◌, map, Option, Some, None, Ok, ⊎_elim, refl, sym, subst}
use Rattle.std.specs.Prelude.{◌==◌, ◌&&◌, not, option_map, unwrap_or, get_or, ◌-◌}
use Rattle.std.specs.List.{AllByRecursion, list_all}
use Rattle.std.specs.Str.{bytes_eq}
use Rattle.std.proofs.lemmas.Bool.{and_parts, cond_both}
use Rattle.predictive.specs.Fills.{Fills, FillsFrom}
use Rattle.ir_core.specs.Functions.{is_debug}
use Rattle.ir_core.specs.Ranges.{AreBytes, IsNameInRange}
use Rattle.ir_core.specs.Types.{is_width}
use Rattle.ir_lexer.specs.declared.token.TokenKind.{TokenKind}
use Rattle.ir_lexer.specs.declared.token.TokenKind.TheVariants as kind
use Rattle.ir_lexer.specs.Bytes.{are_digits}
use Rattle.ir_lexer.specs.Cut.{Placed as PlacedToken, cut}
use Rattle.ir_lexer.specs.Numbers.{begins_with_zero, value_of}
use Rattle.ir_types.specs.declared.names.Name.{Name}
use Rattle.module_grammar.specs.Balanced.{IsBalanced}
use Rattle.module_grammar.specs.Spelled.{at, global_symbol, mark_symbol, symbol, symbol_at, text_symbol, word_symbol}
use Rattle.module_grammar.specs.Symbols as symbols
use Rattle.module_grammar.specs.Symbols.{Symbol, kind_of}
use Rattle.module_grammar.specs.Texts.{is_balanced}
use Rattle.module_grammar.specs.Words.{Entry, are_width, found_in, width_in, width_of, word_said, words}
use Rattle.module_grammar.specs.declared.words.Language.TheVariants.{Ir}
use Rattle.module_grammar.specs.declared.words.Word.{Word}
use Rattle.module_grammar.specs.declared.words.Word.TheVariants as word
use Rattle.module_spelling.specs.Context.{AreBehind, IsUndeclared, IsUnstated, StandsFor, Unless, UnlessAddr}
use Rattle.named_modules.proofs.Lists.{all_right}
use Rattle.module_texts.proofs.SpelledLimits.TokenRanges.{IsCutInRange, IsKindInRange, cut_range}

-- ---- words

-- the type that a word says has a width of an integer
abbrev is_sized : Word → Bool
is_sized (word.Width n) = is_width n
is_sized w = true

abbrev are_sized : List Entry → Bool
are_sized = list_all (λ e. is_sized e.1)

found_range : (es : List Entry) (other : Word) (w : List ℕ) → are_sized es ≡ true → is_sized other ≡ true → is_sized (found_in es other w) ≡ true
found_range [] other w sized rest = rest
found_range (e ∷ es) other w sized rest =
    let parts = and_parts (is_sized e.1) (are_sized es) sized in
    cond_both (bytes_eq w e.0) e.1 (found_in es other w) (λ x. is_sized x ≡ true) (λ yes. parts.0) (λ no. found_range es other w parts.1 rest)

abbrev IsOneInRange : Option ℕ → Type 0
IsOneInRange None = Unit {0}
IsOneInRange (Some n) = is_width n ≡ true

digits_range : (digits : List ℕ) → IsOneInRange (width_in digits)
digits_range digits =
    cond_both (are_width digits) (Some (value_of digits)) None IsOneInRange
    (λ are.
    let parts = and_parts (are_digits digits) (is_width (value_of digits) && not (begins_with_zero digits)) are in
    (and_parts (is_width (value_of digits)) (not (begins_with_zero digits)) parts.1).0)
    (λ no. tt)

width_range : (w : List ℕ) → IsOneInRange (width_of w)
width_range [] = tt
width_range (letter ∷ digits) = cond_both (letter == 105) (width_in digits) None IsOneInRange (λ yes. digits_range digits) (λ no. tt)

typed_range : (n : Option ℕ) (other : Word) → IsOneInRange n → is_sized other ≡ true → is_sized (unwrap_or (option_map word.Width n) other) ≡ true
typed_range None other range rest = rest
typed_range (Some n) other range rest = range

words_range : (w : List ℕ) → is_sized (word_said w) ≡ true
unfolding word_said
words_range w = typed_range (width_of w) (found_in words word.Foreign w) (width_range w) (found_range words word.Foreign w refl refl)

-- ---- symbols

abbrev pub IsSymbolInRange : Symbol → Type 0
IsSymbolInRange (symbols.Local w) = IsNameInRange w.what
IsSymbolInRange (symbols.Global w) = IsNameInRange w.what
IsSymbolInRange (symbols.Debug w) = IsNameInRange w.what
IsSymbolInRange (symbols.Label w) = IsNameInRange w.what
IsSymbolInRange (symbols.Width w) = is_width w.what ≡ true
IsSymbolInRange (symbols.Bytes w) = AreBytes w.what
IsSymbolInRange s = Unit {0}

abbrev pub AllInRange : List Symbol → Type 0
AllInRange = AllByRecursion IsSymbolInRange

said_range : (w : Word) (start end : ℕ) → is_sized w ≡ true → IsSymbolInRange (word_symbol w start end)
said_range (word.Width n) start end range = range
said_range (word.Truth b) start end range = tt
said_range (word.Overflow op) start end range = tt
said_range (word.Exact op) start end range = tt
said_range (word.Plain op) start end range = tt
said_range (word.Resize op) start end range = tt
said_range (word.Pred pred) start end range = tt
said_range (word.Flag flag) start end range = tt
said_range (word.Linkage linkage) start end range = tt
said_range (word.Extension extension) start end range = tt
said_range (word.Holding holding) start end range = tt
said_range word.Null start end range = tt
said_range word.Element start end range = tt
said_range word.BitCast start end range = tt
said_range (word.Key k) start end range = tt
said_range word.Foreign start end range = tt

mark_in : (b : Bool) (s t : Symbol) → IsSymbolInRange s → IsSymbolInRange t → IsSymbolInRange (cond b s t)
mark_in true s t here there = here
mark_in false s t here there = there

marks_range : (b start : ℕ) → IsSymbolInRange (mark_symbol b start)
unfolding mark_symbol
marks_range b start =
    mark_in (b == 44) _ _ tt
    (mark_in (b == 61) _ _ tt
    (mark_in (b == 40) _ _ tt
    (mark_in (b == 41) _ _ tt
    (mark_in (b == 123) _ _ tt
    (mark_in (b == 125) _ _ tt
    (mark_in (b == 91) _ _ tt
    (mark_in (b == 93) _ _ tt
    (mark_in (b == 42) _ _ tt tt))))))))

global_range : (name : Name) (start end : ℕ) → IsNameInRange name → IsSymbolInRange (global_symbol name start end)
global_range name start end range = mark_in (is_debug name) (symbols.Debug (at name start end)) (symbols.Global (at name start end)) range range

text_range : (text bytes : List ℕ) (start end : ℕ) → AreBytes bytes → IsSymbolInRange (text_symbol text bytes start end)
text_range text bytes start end range = mark_in (get_or text (start - 1) 0 == 99) (symbols.Bytes (at bytes start end)) symbols.string range tt

symbol_range : (text : List ℕ) (k : TokenKind) (start end : ℕ) → IsKindInRange k → IsSymbolInRange (symbol_at Ir text k start end)
symbol_range text (kind.Local name) start end range = range
symbol_range text (kind.Global name) start end range = global_range name start end range
symbol_range text (kind.Label name) start end range = range
symbol_range text (kind.Number number) start end range = tt
symbol_range text (kind.Word w) start end range = said_range (word_said w) start end (words_range w)
symbol_range text (kind.Mark b) start end range = marks_range b start
symbol_range text (kind.Attribute digits) start end range = tt
symbol_range text kind.Bang start end range = tt
symbol_range text (kind.Metadata run) start end range = tt
symbol_range text kind.Dots start end range = tt
symbol_range text (kind.Text bytes) start end range = text_range text bytes start end range

each : (text : List ℕ) (tokens : List PlacedToken) → AllByRecursion (λ (t : PlacedToken). IsKindInRange t.kind) tokens → AllInRange (map (symbol Ir text) tokens)
each text [] range = tt
each text (t ∷ tokens) range = (symbol_range text t.kind t.start t.end range.0, each text tokens range.1)

-- ---- what they stand for

unless_range : (P : Type 0) (s t : Symbol) → IsSymbolInRange s → Unless P s t → IsSymbolInRange t
unless_range P s t range stands =
    ⊎_elim (λ itself. subst IsSymbolInRange (sym itself.1) range) (λ none. subst IsSymbolInRange (sym none.1) tt) stands

addr_range : (P : Type 0) (k : ℕ) (s t : Symbol) → IsSymbolInRange s → UnlessAddr P k s t → IsSymbolInRange t
addr_range P k s t range stands =
    ⊎_elim (λ addr. unless_range P s t range addr.1) (λ other. subst IsSymbolInRange (sym other.1) range) stands

stand_range : (before : List Symbol) (s t : Symbol) → IsSymbolInRange s → StandsFor before s t → IsSymbolInRange t
stand_range before (symbols.Global x) t range stands = unless_range (IsUnstated before) (symbols.Global x) t range stands
stand_range before s t range stands = addr_range (IsUndeclared before) (kind_of s) s t range stands

all_stand : (before ss ts : List Symbol) → AllInRange ss → AreBehind before ss ts → AllInRange ts
all_stand before [] [] range stand = tt
all_stand before [] (t ∷ ts) range stand = absurd stand
all_stand before (s ∷ ss) [] range stand = absurd stand
all_stand before (s ∷ ss) (t ∷ ts) range stand =
    (stand_range before s t range.0 stand.0, all_stand (s ∷ before) ss ts range.1 stand.1)

-- those that the tokens of a text of bytes stand for
pub text_in_range : (bytes : List ℕ) (tokens : List PlacedToken) (ts : List Symbol) → AreBytes bytes → cut 0 0 bytes ≡ Ok tokens → AreBehind [] (map (symbol Ir bytes) tokens) ts → AllInRange ts
text_in_range bytes tokens ts small e stand =
    all_stand [] (map (symbol Ir bytes) tokens) ts (each bytes tokens (subst IsCutInRange e (cut_range 0 0 bytes small))) stand

-- ---- what is written, where gaps are filled

gap_range : (s : Symbol) → is_balanced s ≡ true → IsSymbolInRange s
gap_range (symbols.Local w) gap = absurd cc
gap_range (symbols.Global w) gap = absurd cc
gap_range (symbols.Debug w) gap = absurd cc
gap_range (symbols.Label w) gap = absurd cc
gap_range (symbols.Width w) gap = absurd cc
gap_range (symbols.Bytes w) gap = absurd cc
gap_range s gap = tt

first_in_range :
    (b : Bool) (w : Symbol) (ws ts : List Symbol) → ((more : List Symbol) → Fills is_balanced IsBalanced ws more → AllInRange more → AllInRange ws)
    → is_balanced w ≡ b → FillsFrom b IsBalanced w (Fills is_balanced IsBalanced ws) ts → AllInRange ts → AllInRange (w ∷ ws)
first_in_range true w ws ts go gap (inside, behind, same, fit, more) range =
    (gap_range w gap, go behind more (all_right IsSymbolInRange inside behind (subst AllInRange (sym same) range)))
first_in_range false w ws ts go gap (behind, same, more) range =
    let all = subst AllInRange (sym same) range in (all.0, go behind more all.1)

pub written_in_range : (ws ts : List Symbol) → Fills is_balanced IsBalanced ws ts → AllInRange ts → AllInRange ws
written_in_range [] ts fills range = tt
written_in_range (w ∷ ws) ts fills range =
    first_in_range (is_balanced w) w ws ts (λ more fit all. written_in_range ws more fit all) refl fills range
