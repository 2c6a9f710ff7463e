-- The symbols of tokens, each at some place.
use Rattle.std.proofs.Common.{◌≡◌, ℕ, Bool, true, false, List, [], ◌∷◌, ◌++◌, map, Some, Ok, Err, refl, ap, ◌∙◌, subst}
use Rattle.std.specs.Prelude.{◌-◌, ◌==◌, get_or, if◌then◌else◌}
use Rattle.ir_lexer.specs.declared.token.TokenKind.{TokenKind}
use Rattle.ir_lexer.specs.declared.token.TokenKind.TheVariants as kind
use Rattle.ir_lexer.specs.Cut.{Cut, cut}
use Rattle.ir_lexer.specs.Cut.{Placed as PlacedToken}
use Rattle.module_grammar.specs.declared.words.Language.{Language}
use Rattle.module_grammar.specs.Spelled.{at, symbol, word_symbol, mark_symbol, global_symbol}
use Rattle.module_grammar.specs.Spelled as spelled
use Rattle.module_grammar.specs.Symbols.{Symbol, Local, Bytes, Label, Numeral, bang, dots, group, metadata, string}
use Rattle.module_grammar.specs.Words.{word_of}
use Rattle.printed_tokens.proofs.TokenWords.{Seen, seen_at, seen_cut, seen_in, tokens_of}

-- the symbol of a token of which this is seen
abbrev pub symbol_at : Language → Seen → ℕ → ℕ → Symbol
symbol_at language (kind.Text bytes, true) start end = Bytes (at bytes start end)
symbol_at language (kind.Text bytes, false) start end = string
symbol_at language (kind.Local name, behind_c) start end = Local (at name start end)
symbol_at language (kind.Global name, behind_c) start end = global_symbol name start end
symbol_at language (kind.Attribute digits, behind_c) start end = group
symbol_at language (kind.Bang, behind_c) start end = bang
symbol_at language (kind.Metadata run, behind_c) start end = metadata
symbol_at language (kind.Label name, behind_c) start end = Label (at name start end)
symbol_at language (kind.Dots, behind_c) start end = dots
symbol_at language (kind.Number number, behind_c) start end = Numeral (at number start end)
symbol_at language (kind.Word w, behind_c) start end = word_symbol (word_of language w) start end
symbol_at language (kind.Mark b, behind_c) start end = mark_symbol b start

string_seen : (language : Language) (bytes : List ℕ) (start end : ℕ) (behind_c : Bool) → (if behind_c then Bytes (at bytes start end) else string) ≡ symbol_at language (kind.Text bytes, behind_c) start end
string_seen language bytes start end true = refl
string_seen language bytes start end false = refl

-- in a text, each token is the symbol of what is seen of it
seen_symbol : (language : Language) (text : List ℕ) (k : TokenKind) (start end : ℕ) → spelled.symbol_at language text k start end ≡ symbol_at language (seen_at text k start) start end
seen_symbol language text (kind.Text bytes) start end = string_seen language bytes start end (get_or text (start - 1) 0 == 99)
seen_symbol language text (kind.Local name) start end = refl
seen_symbol language text (kind.Global name) start end = refl
seen_symbol language text (kind.Attribute digits) start end = refl
seen_symbol language text kind.Bang start end = refl
seen_symbol language text (kind.Metadata run) start end = refl
seen_symbol language text (kind.Label name) start end = refl
seen_symbol language text kind.Dots start end = refl
seen_symbol language text (kind.Number number) start end = refl
seen_symbol language text (kind.Word w) start end = refl
seen_symbol language text (kind.Mark b) start end = refl

some_is : (a b : List Seen) → Some a ≡ Some b → a ≡ b
some_is a b e = cc

-- one symbol and those behind it
pub first_is : (s t : Symbol) (ss ts us : List Symbol) → ss ≡ s ∷ ts → s ≡ t → ts ≡ us → ss ≡ t ∷ us
first_is s t ss ts us e f g = e ∙ ap (λ x. x ∷ ts) f ∙ ap (λ xs. t ∷ xs) g

-- the symbols are those of a tree that names this
pub record Writes {T : Type 0} (written : T → List Symbol) (Names : T → Type 0) (ss : List Symbol) : Type 0 where
  pub tree : T
  pub are : ss ≡ written tree
  pub names : Names tree

module _ (language : Language) where
  abbrev pub AtPlaces : List Seen → List Symbol → Type 0
  AtPlaces [] ss = ss ≡ []
  AtPlaces (k ∷ ks) ss = (start : ℕ) × (end : ℕ) × (more : List Symbol) × (ss ≡ symbol_at language k start end ∷ more) × AtPlaces ks more

  at_places : (bytes : List ℕ) (tokens : List PlacedToken) → AtPlaces (map (seen_in bytes) tokens) (map (symbol language bytes) tokens)
  at_places bytes [] = refl
  at_places bytes (t ∷ tokens) =
      (t.start, t.end, map (symbol language bytes) tokens, ap (λ s. s ∷ map (symbol language bytes) tokens) (seen_symbol language bytes t.kind t.start t.end), at_places bytes tokens)

  -- the tokens of a text, and their symbols
  abbrev pub SymbolsFrom : List ℕ → List Seen → Type 0
  SymbolsFrom bytes ks = (tokens : List PlacedToken) × (cut 0 0 bytes ≡ Ok tokens) × AtPlaces ks (map (symbol language bytes) tokens)

  of_cut : (bytes : List ℕ) (c : Cut) (ks : List Seen) → cut 0 0 bytes ≡ c → seen_cut bytes c ≡ Some ks → SymbolsFrom bytes ks
  of_cut bytes (Ok tokens) ks is seen =
      (tokens, is, subst (λ ks. AtPlaces ks (map (symbol language bytes) tokens)) (some_is (map (seen_in bytes) tokens) ks seen) (at_places bytes tokens))
  of_cut bytes (Err fault) ks is seen = cc

  pub symbols_from : (bytes : List ℕ) (ks : List Seen) → tokens_of bytes ≡ Some ks → SymbolsFrom bytes ks
  symbols_from bytes ks = of_cut bytes (cut 0 0 bytes) ks refl

  -- the symbols of the first tokens, and of those behind them
  pub record Parts (ks ms : List Seen) (ss : List Symbol) : Type 0 where
    pub front : List Symbol
    pub back : List Symbol
    pub are : ss ≡ front ++ back
    pub at_front : AtPlaces ks front
    pub at_back : AtPlaces ms back

  pub parts : (ks ms : List Seen) (ss : List Symbol) → AtPlaces (ks ++ ms) ss → Parts ks ms ss
  parts [] ms ss at = record { front = []; back = ss; are = refl; at_front = refl; at_back = at }
  parts (k ∷ ks) ms ss (start, end, more, first, at) =
      let p = parts ks ms more at in
      record {
        front = symbol_at language k start end ∷ p.front;
        back = p.back;
        are = first ∙ ap (λ xs. symbol_at language k start end ∷ xs) p.are;
        at_front = (start, end, p.front, refl, p.at_front);
        at_back = p.at_back;
      }

  -- tokens that are these symbols wherever they stand
  abbrev pub AreSymbols : List Seen → List Symbol → Type 0
  AreSymbols [] [] = Unit {0}
  AreSymbols (k ∷ ks) (s ∷ ss) = ((start end : ℕ) → symbol_at language k start end ≡ s) × AreSymbols ks ss
  AreSymbols ks ss = ⊥

  pub symbols_are : (ks : List Seen) (ts ss : List Symbol) → AreSymbols ks ts → AtPlaces ks ss → ss ≡ ts
  symbols_are [] [] ss are at = at
  symbols_are [] (t ∷ ts) ss are at = absurd are
  symbols_are (k ∷ ks) [] ss are at = absurd are
  symbols_are (k ∷ ks) (t ∷ ts) ss are (start, end, more, first, at) =
      first_is (symbol_at language k start end) t ss more ts first (are.0 start end) (symbols_are ks ts more are.1 at)
