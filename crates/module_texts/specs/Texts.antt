-- What is first at fault in a text of the whole grammar: its length, then its tokens, then the grammar and the limits on depths and lines, then
-- names, types and the limit on blocks, each over the whole text.
use Rattle.std.specs.Prelude.{◌≡◌, ◌⊎◌, ◌≤◌, ◌<◌, ℕ, zero, suc, ◌-◌, Bool, true, false, List, [], ◌∷◌, length, map, Some, Ok, Err, slice_get}
use Rattle.ir_core.specs.declared.limits.Limit.{Limit}
use Rattle.ir_core.specs.declared.limits.Limit.TheVariants as limit
use Rattle.ir_core.specs.Limits.{text_limit}
use Rattle.ir_lexer.specs.declared.token.LexFault.{LexFault}
use Rattle.ir_lexer.specs.declared.token.LexFault.TheVariants as lexer
use Rattle.ir_lexer.specs.Cut.{Placed, cut}
use Rattle.module_grammar.specs.Spelled.{symbol}
use Rattle.module_grammar.specs.Symbols.{Symbol}
use Rattle.module_grammar.specs.declared.words.Language.TheVariants.{Ir}
use Rattle.module_spelling.specs.Context.{StandFor}
use Rattle.module_spelling.specs.Faults.{HasLargeBlock, HasLimit, HasNameFault, IsGrammarFault}
use Rattle.ir_lexer.specs.LeftOut.{is_left_out}
use Rattle.name_claims.specs.declared.claims.Fault.{Fault}
use Rattle.name_claims.specs.declared.claims.Reason.{Reason}
use Rattle.name_claims.specs.declared.claims.Reason.TheVariants as reason
use Rattle.ir_lexer.specs.declared.fault.TextFault.{TextFault}
use Rattle.ir_lexer.specs.declared.fault.TextFault.TheVariants as fault

-- ---- its tokens

abbrev pub IsShort : List ℕ → Type 0
IsShort bytes = length bytes ≤ text_limit

-- the text is short enough, and cut into these tokens
abbrev pub HasTokens : List ℕ → List Placed → Type 0
HasTokens bytes tokens = IsShort bytes × (cut 0 0 bytes ≡ Ok tokens)

-- the text is short enough, and cutting it comes to this fault
abbrev pub HasLexFault : List ℕ → LexFault → Type 0
HasLexFault bytes f = IsShort bytes × (cut 0 0 bytes ≡ Err f)

-- the symbols that tokens of the text are by themselves
abbrev pub own_symbols : List ℕ → List Placed → List Symbol
own_symbols bytes tokens = map (symbol Ir bytes) tokens

-- the text is short enough, and cut into these tokens, which stand for these symbols
abbrev pub HasSymbols : List ℕ → List Placed → List Symbol → Type 0
HasSymbols bytes tokens symbols = HasTokens bytes tokens × StandFor (own_symbols bytes tokens) symbols

-- where the token of this index begins, counted from 0; behind the last one, where the text ends
abbrev pub place_at : ℕ → List Placed → ℕ → ℕ
place_at end [] k = end
place_at end (t ∷ tokens) zero = t.start
place_at end (t ∷ tokens) (suc k) = place_at end tokens k

-- the token of this index is a word that is left out
abbrev pub is_left_out_at : List Placed → ℕ → Bool
is_left_out_at [] k = false
is_left_out_at (t ∷ tokens) zero = is_left_out t.kind
is_left_out_at (t ∷ tokens) (suc k) = is_left_out_at tokens k

-- ---- its grammar, names and types

-- this is so of what the tokens of the text stand for
abbrev pub OfSymbols : List ℕ → (List Placed → List Symbol → Type 0) → Type 0
OfSymbols bytes P = (tokens : List Placed) × (symbols : List Symbol) × HasSymbols bytes tokens symbols × P tokens symbols

abbrev pub PassesLimit : List ℕ → Limit → Type 0
PassesLimit bytes l = OfSymbols bytes (λ tokens symbols. HasLimit (own_symbols bytes tokens) symbols l)

-- the token of this index is the first that isn't expected
abbrev pub IsStuckAt : List ℕ → List Placed → List Symbol → ℕ → Type 0
IsStuckAt bytes tokens symbols k = IsGrammarFault (own_symbols bytes tokens) symbols k

abbrev pub IsNameFault : List ℕ → Fault → Type 0
IsNameFault bytes f = OfSymbols bytes (λ tokens symbols. HasNameFault symbols f)

-- a fault of this reason from this place on, over so many bytes
abbrev pub IsSizedFault : List ℕ → ℕ → ℕ → Reason → Type 0
IsSizedFault bytes place size why = (end : ℕ) × IsNameFault bytes (record { start = place; end = end; reason = why }) × (size ≡ end - place)

-- ---- all together

-- The first fault of a text. Want of memory says nothing of it.
--
-- Of `define i32 @f() { ret i32 %x }` it is `Unknown` at 26, 2 bytes long; with ` ) 0x1F` behind it is `BadNumber` at 34, as all
-- tokens come before the grammar.
abbrev pub IsTextFault : List ℕ → TextFault → Type 0
IsTextFault bytes (fault.Limit limit.Text) = text_limit < length bytes
IsTextFault bytes (fault.Limit limit.Depth) = PassesLimit bytes limit.Depth
IsTextFault bytes (fault.Limit limit.Lines) = PassesLimit bytes limit.Lines
IsTextFault bytes (fault.Limit limit.Block) = OfSymbols bytes (λ tokens symbols. HasLargeBlock symbols)
IsTextFault bytes (fault.Limit _) = ⊥
IsTextFault bytes (fault.BadByte place) = HasLexFault bytes (lexer.BadByte place)
IsTextFault bytes (fault.BadString place) = HasLexFault bytes (lexer.BadString place)
IsTextFault bytes (fault.BadNumber place) = HasLexFault bytes (lexer.BadNumber place)
IsTextFault bytes (fault.Expected place) =
    OfSymbols bytes (λ tokens symbols.
    (k : ℕ) × IsStuckAt bytes tokens symbols k × (is_left_out_at tokens k ≡ false) × (place ≡ place_at (length bytes) tokens k))
IsTextFault bytes (fault.LeftOut place size) =
    OfSymbols bytes (λ tokens symbols.
    (k : ℕ) × (t : Placed) × IsStuckAt bytes tokens symbols k × (slice_get tokens k ≡ Some t) × (is_left_out t.kind ≡ true) × (place ≡ t.start)
    × (size ≡ t.end - t.start))
    ⊎ IsSizedFault bytes place size reason.LeftOut
IsTextFault bytes (fault.Unknown place size) = IsSizedFault bytes place size reason.Unknown
IsTextFault bytes (fault.Twice place size) = IsSizedFault bytes place size reason.Twice
IsTextFault bytes (fault.WrongNumber place expected) =
    (end : ℕ) × IsNameFault bytes (record { start = place; end = end; reason = reason.WrongNumber expected })
IsTextFault bytes (fault.WrongType place) = (end : ℕ) × IsNameFault bytes (record { start = place; end = end; reason = reason.WrongType })
IsTextFault bytes fault.Memory = Unit {0}
