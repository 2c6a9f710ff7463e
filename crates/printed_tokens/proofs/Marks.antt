-- Words, marks and gaps, each the same symbols wherever it stands, or with the place where it begins; names.
use Rattle.std.proofs.Common.{◌≡◌, ℕ, List, [], ◌∷◌, ◌++◌, false, refl, ap, sym, arith}
use Rattle.std.proofs.lemmas.Bool.{cond-false}
use Rattle.std.proofs.lemmas.List.Folds.{flat_map-map}
use Rattle.std.specs.Prelude.{codes}
use Rattle.std.specs.List.{AllByRecursion, AllZip, flat_map}
use Rattle.std.specs.Prelude.{map}
use Rattle.ir_types.specs.declared.names.Name.{Name}
use Rattle.ir_types.specs.declared.names.Sigil.TheVariants as sigil
use Rattle.ir_core.specs.declared.operands.CastOp.TheVariants as cast
use Rattle.ir_core.specs.Functions.{is_debug}
use Rattle.ir_core.specs.Ranges.{IsNameInRange}
use Rattle.ir_core.specs.Words as words
use Rattle.ir_lexer.specs.declared.token.TokenKind.TheVariants as kind
use Rattle.ir_lexer.specs.Pieces.{piece, plain}
use Rattle.ir_lexer.specs.Pieces.Piece.{Token}
use Rattle.module_grammar.specs.declared.places.Placed.{Placed}
use Rattle.module_grammar.specs.declared.words.KeyWord.{KeyWord}
use Rattle.module_grammar.specs.declared.words.Language.{Language}
use Rattle.module_grammar.specs.Listed.{behind_comma}
use Rattle.module_grammar.specs.Listed.{further as further_written}
use Rattle.module_grammar.specs.Spelled.{mark_symbol}
use Rattle.module_grammar.specs.Symbols.{Symbol, BitCast, Brace, Bracket, Element, Global, Local, Null, Star, key_number}
use Rattle.module_grammar.specs.Symbols as symbols
use Rattle.ir_printer.specs.ExpressionPrinter.Printed.{listed, printed_local, printed_name, spaced}
use Rattle.printed_tokens.proofs.Prints.{IsFixed, Prints, before, both, empty, fixed, of_text, one_token, read_as}
use Rattle.printed_tokens.proofs.Places.{symbol_at}
use Rattle.printed_tokens.proofs.ReadTexts.{Any, Stops, IsWord}
use Rattle.printed_tokens.proofs.ReadTexts as reads
use Rattle.printed_tokens.proofs.Runs.{one_run}
use Rattle.printed_tokens.proofs.TokenWords as kinds
use Rattle.printed_tokens.proofs.WordSymbols.{IsOfBoth, at_any, bitcast_said, cast_is, element_is, element_said, key_is, key_said, key_text, null_is, null_said}

-- each behind a comma
pub further_is : {T : Type 0} (w : T → List Symbol) (ts : List T) → flat_map (λ t. symbols.comma ∷ w t) ts ≡ further_written (map w ts)
further_is w ts = sym (flat_map-map behind_comma w ts)

module _ (language : Language) where
  -- ---- gaps and marks

  pub space : IsFixed language Any (32 ∷ []) []
  space = fixed language Any (32 ∷ []) [] [] reads.space tt

  pub line_end : IsFixed language Any (10 ∷ []) []
  unfolding piece
  line_end = fixed language Any (10 ∷ []) [] [] (reads.gap (10 ∷ []) (λ rest. refl) (omega arith)) tt

  mark : (b : ℕ) (s : Symbol) → ((rest : List ℕ) → piece (b ∷ rest) ≡ Token (kind.Mark b) 1) → ((start end : ℕ) → symbol_at language (kinds.alone (kind.Mark b)) start end ≡ s) → IsFixed language Any (b ∷ []) (s ∷ [])
  mark b s is stands = fixed language Any (b ∷ []) (kinds.alone (kind.Mark b) ∷ []) (s ∷ []) (reads.token (b ∷ []) (kind.Mark b) refl is (omega arith)) (stands, tt)

  pub comma_mark : IsFixed language Any (44 ∷ []) (symbols.comma ∷ [])
  unfolding piece mark_symbol
  comma_mark = mark 44 symbols.comma (λ rest. refl) (λ i j. refl)

  pub equals_mark : IsFixed language Any (61 ∷ []) (symbols.equals ∷ [])
  unfolding piece mark_symbol
  equals_mark = mark 61 symbols.equals (λ rest. refl) (λ i j. refl)

  pub open_paren : IsFixed language Any (40 ∷ []) (symbols.open_paren ∷ [])
  unfolding piece mark_symbol
  open_paren = mark 40 symbols.open_paren (λ rest. refl) (λ i j. refl)

  pub close_paren : IsFixed language Any (41 ∷ []) (symbols.close_paren ∷ [])
  unfolding piece mark_symbol
  close_paren = mark 41 symbols.close_paren (λ rest. refl) (λ i j. refl)

  pub close_brace : IsFixed language Any (125 ∷ []) (symbols.close_brace ∷ [])
  unfolding piece mark_symbol
  close_brace = mark 125 symbols.close_brace (λ rest. refl) (λ i j. refl)

  pub close_bracket : IsFixed language Any (93 ∷ []) (symbols.close_bracket ∷ [])
  unfolding piece mark_symbol
  close_bracket = mark 93 symbols.close_bracket (λ rest. refl) (λ i j. refl)

  -- ---- marks that keep their places

  placed_mark : (b : ℕ) (s : ℕ → Symbol) → ((rest : List ℕ) → piece (b ∷ rest) ≡ Token (kind.Mark b) 1) → ((start end : ℕ) → symbol_at language (kinds.alone (kind.Mark b)) start end ≡ s start)
      → Prints language Any (λ (at : ℕ). s at ∷ []) (λ (at : ℕ). Unit {0}) (b ∷ [])
  placed_mark b s is stands =
      one_token language Any (λ (at : ℕ). s at ∷ []) (λ (at : ℕ). Unit {0}) (b ∷ []) (kinds.alone (kind.Mark b)) (λ start end. start)
      (reads.token (b ∷ []) (kind.Mark b) refl is (omega arith)) (λ i j. ap (λ x. x ∷ []) (stands i j)) (λ i j. tt)

  pub open_brace : Prints language Any (λ (at : ℕ). Brace at ∷ []) (λ (at : ℕ). Unit {0}) (123 ∷ [])
  unfolding piece mark_symbol
  open_brace = placed_mark 123 Brace (λ rest. refl) (λ i j. refl)

  pub open_bracket : Prints language Any (λ (at : ℕ). Bracket at ∷ []) (λ (at : ℕ). Unit {0}) (91 ∷ [])
  unfolding piece mark_symbol
  open_bracket = placed_mark 91 Bracket (λ rest. refl) (λ i j. refl)

  pub star : Prints language Any (λ (at : ℕ). Star at ∷ []) (λ (at : ℕ). Unit {0}) (42 ∷ [])
  unfolding piece mark_symbol
  star = placed_mark 42 Star (λ rest. refl) (λ i j. refl)

  -- a comma and a space
  pub comma : IsFixed language Any (codes ", ") (symbols.comma ∷ [])
  comma = before language comma_mark space

  -- ---- words

  -- a word, and a word and a space, which are this symbol
  pub word : (w : List ℕ) (s : Symbol) → IsWord w → ((start end : ℕ) → symbol_at language (kinds.word w) start end ≡ s) → IsFixed language Stops w (s ∷ [])
  word w s is stands = fixed language Stops w (kinds.word w ∷ []) (s ∷ []) (reads.word w is) (stands, tt)

  pub word_and_space : (w : List ℕ) (s : Symbol) → IsWord w → ((start end : ℕ) → symbol_at language (kinds.word w) start end ≡ s) → IsFixed language Any (spaced w) (s ∷ [])
  word_and_space w s is stands = fixed language Any (spaced w) (kinds.word w ∷ []) (s ∷ []) (reads.word_and_space w is) (stands, tt)

  pub key_alone : (k : KeyWord) → IsOfBoth k → IsFixed language Stops (key_text k) (symbols.Fixed (key_number k) ∷ [])
  key_alone k of_both = word (key_text k) (symbols.Fixed (key_number k)) (key_is k) (at_any language (key_text k) _ (key_said language k of_both))

  pub key : (k : KeyWord) → IsOfBoth k → IsFixed language Any (spaced (key_text k)) (symbols.Fixed (key_number k) ∷ [])
  key k of_both = word_and_space (key_text k) (symbols.Fixed (key_number k)) (key_is k) (at_any language (key_text k) _ (key_said language k of_both))

  pub dots : IsFixed language Stops (codes "...") (symbols.dots ∷ [])
  unfolding plain
  dots = fixed language Stops (codes "...") (kinds.alone kind.Dots ∷ []) (symbols.dots ∷ [])
      (record { lexes = λ rest seen stop lexes. one_run 46 (codes "..") rest kind.Dots seen refl refl refl stop lexes }) ((λ i j. refl), tt)

  -- ---- words that keep their places

  -- a word, and a word and a space, which are this symbol with the place
  pub placed_word : (w : List ℕ) (s : ℕ → Symbol) → IsWord w → ((start end : ℕ) → symbol_at language (kinds.word w) start end ≡ s start)
      → Prints language Stops (λ (at : ℕ). s at ∷ []) (λ (at : ℕ). Unit {0}) w
  placed_word w s is stands =
      one_token language Stops (λ (at : ℕ). s at ∷ []) (λ (at : ℕ). Unit {0}) w (kinds.word w) (λ start end. start) (reads.word w is)
      (λ i j. ap (λ x. x ∷ []) (stands i j)) (λ i j. tt)

  pub placed_word_and_space : (w : List ℕ) (s : ℕ → Symbol) → IsWord w → ((start end : ℕ) → symbol_at language (kinds.word w) start end ≡ s start)
      → Prints language Any (λ (at : ℕ). s at ∷ []) (λ (at : ℕ). Unit {0}) (spaced w)
  placed_word_and_space w s is stands =
      one_token language Any (λ (at : ℕ). s at ∷ []) (λ (at : ℕ). Unit {0}) (spaced w) (kinds.word w) (λ start end. start) (reads.word_and_space w is)
      (λ i j. ap (λ x. x ∷ []) (stands i j)) (λ i j. tt)

  pub null : Prints language Stops (λ (at : ℕ). Null at ∷ []) (λ (at : ℕ). Unit {0}) words.null_word
  null = placed_word words.null_word Null null_is (at_any language words.null_word _ (null_said language))

  pub element : Prints language Any (λ (at : ℕ). Element at ∷ []) (λ (at : ℕ). Unit {0}) (spaced words.getelementptr_word)
  element = placed_word_and_space words.getelementptr_word Element element_is (at_any language words.getelementptr_word _ (element_said language))

  pub bitcast : Prints language Any (λ (at : ℕ). BitCast at ∷ []) (λ (at : ℕ). Unit {0}) (spaced (words.cast_word cast.BitCast))
  bitcast = placed_word_and_space (words.cast_word cast.BitCast) BitCast (cast_is cast.BitCast) (at_any language (words.cast_word cast.BitCast) _ (bitcast_said language))

  -- ---- names

  pub local : (n : Name) → IsNameInRange n → Prints language Stops (λ w. Local w ∷ []) (λ (w : Placed Name). n ≡ w.what) (printed_local n)
  local n writable =
      one_token language Stops (λ w. Local w ∷ []) (λ (w : Placed Name). n ≡ w.what) (printed_local n) (kinds.name sigil.Local n)
      (λ start end. record { what = n; start = start; end = end }) (reads.name sigil.Local n writable) (λ i j. refl) (λ i j. refl)

  -- a name that is none of debugging
  pub plain_global : (n : Name) → IsNameInRange n → is_debug n ≡ false → Prints language Stops (λ w. Global w ∷ []) (λ (w : Placed Name). n ≡ w.what) (printed_name sigil.Global n)
  plain_global n writable other =
      one_token language Stops (λ w. Global w ∷ []) (λ (w : Placed Name). n ≡ w.what) (printed_name sigil.Global n) (kinds.name sigil.Global n)
      (λ start end. record { what = n; start = start; end = end }) (reads.name sigil.Global n writable)
      (λ i j. ap (λ s. s ∷ []) (cond-false (is_debug n) _ _ other)) (λ i j. refl)

  -- ---- further texts of a list, a comma and a space before each

  pub commas_stop : {X : Type 0} (text : X → List ℕ) (xs : List X) (rest : List ℕ) → Stops rest → Stops (listed (codes ", ") (map text xs) ++ rest)
  commas_stop text [] rest stop = stop
  commas_stop text (x ∷ xs) rest stop = refl

  pub further :
      {X T : Type 0} (P : X → Type 0) (w : T → List Symbol) (N : T → X → Type 0) (text : X → List ℕ)
      → ((x : X) → P x → Prints language Stops w (λ t. N t x) (text x)) → (xs : List X) → AllByRecursion P xs
      → Prints language Stops (flat_map (λ t. symbols.comma ∷ w t)) (λ ts. AllZip N ts xs) (listed (codes ", ") (map text xs))
  further P w N text one [] all =
      read_as language (flat_map (λ t. symbols.comma ∷ w t)) (λ ts. AllZip N ts []) (λ t. []) (λ t named. refl) (λ t named. tt) (empty language Stops)
  further P w N text one (x ∷ xs) all =
      read_as language (flat_map (λ t. symbols.comma ∷ w t)) (λ ts. AllZip N ts (x ∷ xs)) (λ t. t.0 ∷ t.1) (λ t named. refl) (λ t named. named)
      (before language comma (both language (one x all.0) (further P w N text one xs all.1) (commas_stop text xs)))

  listed_flat : {X : Type 0} (text : X → List ℕ) (xs : List X) → listed (codes ", ") (map text xs) ≡ flat_map (λ x. codes ", " ++ text x) xs
  listed_flat text [] = refl
  listed_flat text (x ∷ xs) = ap (λ more. 44 ∷ 32 ∷ (text x ++ more)) (listed_flat text xs)

  -- the same by another word for the text
  pub further_flat :
      {X T : Type 0} (P : X → Type 0) (w : T → List Symbol) (N : T → X → Type 0) (text : X → List ℕ)
      → ((x : X) → P x → Prints language Stops w (λ t. N t x) (text x)) → (xs : List X) → AllByRecursion P xs
      → Prints language Stops (flat_map (λ t. symbols.comma ∷ w t)) (λ ts. AllZip N ts xs) (flat_map (λ x. codes ", " ++ text x) xs)
  further_flat P w N text one xs all = of_text language _ _ (listed_flat text xs) (further P w N text one xs all)

  pub flat_stops : {X : Type 0} (text : X → List ℕ) (xs : List X) (rest : List ℕ) → Stops rest → Stops (flat_map (λ x. codes ", " ++ text x) xs ++ rest)
  flat_stops text [] rest stop = stop
  flat_stops text (x ∷ xs) rest stop = refl

  -- a text and further ones
  pub some :
      {X T : Type 0} (P : X → Type 0) (w : T → List Symbol) (N : T → X → Type 0) (text : X → List ℕ)
      → ((x : X) → P x → Prints language Stops w (λ t. N t x) (text x)) → (x : X) (xs : List X) → P x → AllByRecursion P xs
      → Prints language Stops (λ (t : T × List T). w t.0 ++ flat_map (λ t. symbols.comma ∷ w t) t.1) (λ (t : T × List T). AllZip N (t.0 ∷ t.1) (x ∷ xs))
      (text x ++ listed (codes ", ") (map text xs))
  some P w N text one x xs first all = both language (one x first) (further P w N text one xs all) (commas_stop text xs)
