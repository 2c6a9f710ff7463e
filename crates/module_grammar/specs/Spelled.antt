-- What symbol a token of a text is.
use Rattle.std.specs.Prelude.{ℕ, ◌-◌, ◌==◌, List, get_or, if◌then◌else◌}
use Rattle.ir_types.specs.declared.names.Name.{Name}
use Rattle.ir_core.specs.Functions.{is_debug}
use Rattle.ir_lexer.specs.declared.token.Token.{Token}
use Rattle.ir_lexer.specs.declared.token.TokenKind.{TokenKind}
use Rattle.ir_lexer.specs.declared.token.TokenKind.TheVariants as kind
use Rattle.ir_lexer.specs.Cut.{Placed as PlacedToken}
use Rattle.ir_lexer.specs.Said.{said_in}
use Rattle.module_grammar.specs.declared.places.Placed.{Placed}
use Rattle.module_grammar.specs.declared.words.Language.{Language}
use Rattle.module_grammar.specs.declared.words.Word.{Word}
use Rattle.module_grammar.specs.declared.words.Word.TheVariants as word
use Rattle.module_grammar.specs.Symbols.{Symbol, Local, Global, Debug, Label, Numeral, Width, Truth, Bytes, Overflow, Exact, Plain, Resize, Pred, Flag, Linkage, Extension, Holding, Star, Bracket, Brace, Null, Element, BitCast, Fixed, foreign, key_number, kind_of, comma, equals, open_paren, close_paren, close_brace, close_bracket, dots, bang, metadata, group, string}
use Rattle.module_grammar.specs.Words.{word_of}

abbrev pub at : {X : Type 0} → X → ℕ → ℕ → Placed X
at what start end = record { what = what; start = start; end = end }

-- the symbol of a word at a place
abbrev pub word_symbol : Word → ℕ → ℕ → Symbol
word_symbol (word.Width n) start end = Width (at n start end)
word_symbol (word.Truth b) start end = Truth (at b start end)
word_symbol (word.Overflow op) start end = Overflow op
word_symbol (word.Exact op) start end = Exact op
word_symbol (word.Plain op) start end = Plain op
word_symbol (word.Resize op) start end = Resize op
word_symbol (word.Pred pred) start end = Pred pred
word_symbol (word.Flag flag) start end = Flag flag
word_symbol (word.Linkage linkage) start end = Linkage linkage
word_symbol (word.Extension extension) start end = Extension extension
word_symbol (word.Holding holding) start end = Holding holding
word_symbol word.Null start end = Null start
word_symbol word.Element start end = Element start
word_symbol word.BitCast start end = BitCast start
word_symbol (word.Key k) start end = Fixed (key_number k)
word_symbol word.Foreign start end = foreign

-- each mark of the grammar is its own symbol: , = ( ) { } [ ] *
unfoldable pub mark_symbol : ℕ → ℕ → Symbol
mark_symbol b start =
    if b == 44 then comma
    else (if b == 61 then equals
    else (if b == 40 then open_paren
    else (if b == 41 then close_paren
    else (if b == 123 then Brace start
    else (if b == 125 then close_brace
    else (if b == 91 then Bracket start
    else (if b == 93 then close_bracket
    else (if b == 42 then Star start
    else foreign))))))))

-- a name of debugging is apart (Debugger intrinsic functions)
abbrev pub global_symbol : Name → ℕ → ℕ → Symbol
global_symbol name start end = if is_debug name then Debug (at name start end) else Global (at name start end)

-- a string that stands directly behind a byte `c` says bytes
abbrev pub text_symbol : List ℕ → List ℕ → ℕ → ℕ → Symbol
text_symbol text bytes start end = if get_or text (start - 1) 0 == 99 then Bytes (at bytes start end) else string

abbrev pub symbol_at : Language → List ℕ → TokenKind → ℕ → ℕ → Symbol
symbol_at language text (kind.Local name) start end = Local (at name start end)
symbol_at language text (kind.Global name) start end = global_symbol name start end
symbol_at language text (kind.Attribute digits) start end = group
symbol_at language text kind.Bang start end = bang
symbol_at language text (kind.Metadata run) start end = metadata
symbol_at language text (kind.Label name) start end = Label (at name start end)
symbol_at language text kind.Dots start end = dots
symbol_at language text (kind.Number number) start end = Numeral (at number start end)
symbol_at language text (kind.Word w) start end = word_symbol (word_of language w) start end
symbol_at language text (kind.Text bytes) start end = text_symbol text bytes start end
symbol_at language text (kind.Mark b) start end = mark_symbol b start

-- the symbol that a token is in a text of the language
abbrev pub symbol : Language → List ℕ → PlacedToken → Symbol
symbol language text t = symbol_at language text t.kind t.start t.end

-- a token of a text, with what it says there
abbrev pub placed_in : List ℕ → Token → PlacedToken
placed_in text t = record { kind = said_in text t; start = t.start; end = t.end }

-- the symbol that a token of a text in the language is
--
-- In the text `ret i32 %x` a token of the kind `Local` from 8 up to 10 is the symbol of the name `x` at these places, and in `c"x"` one of the
-- kind `Text` from 1 up to 4 is the symbol of the bytes `x`.
abbrev pub symbol_in : Language → List ℕ → Token → Symbol
symbol_in language text t = symbol_at language text (said_in text t) t.start t.end

abbrev pub kind_of_token : Language → List ℕ → PlacedToken → ℕ
kind_of_token language text t = kind_of (symbol language text t)

abbrev pub kind_in : Language → List ℕ → Token → ℕ
kind_in language text t = kind_of (symbol_in language text t)
