-- `c` and a printed string are the word and the bytes that stand between the quotes.
use Rattle.std.proofs.Common.{◌≡◌, ◌∙◌, ℕ, ◌+◌, ◌-◌, ◌^◌, ◌<◌, true, false, List, [], ◌∷◌, ◌++◌, drop, length, length-append, append_assoc, codes, get_or, arith, refl, ap, sym}
use Rattle.std.specs.Prelude.{◌==◌}
use Rattle.std.specs.List.{AllByRecursion, flat_map, list_all}
use Rattle.std.proofs.Math.Seq.{drop-append_seam, get_or-append_seam}
use Rattle.std.proofs.lemmas.Bool.{cond-false}
use Rattle.ir_lexer.specs.declared.token.TokenKind.TheVariants as kind
use Rattle.ir_lexer.specs.Bytes.{begins_with_colon}
use Rattle.ir_lexer.specs.Pieces.{closed, piece, plain}
use Rattle.ir_lexer.specs.Pieces.{quoted as quoted_piece}
use Rattle.ir_lexer.specs.Pieces.Piece.{Token}
use Rattle.ir_lexer.specs.Runs.{is_no_quote}
use Rattle.ir_lexer.specs.Strings.{unescaped, unescaped_after}
use Rattle.module_grammar.specs.declared.places.Placed.{Placed}
use Rattle.module_grammar.specs.declared.words.KeyWord.TheVariants as key
use Rattle.module_grammar.specs.declared.words.Language.{Language}
use Rattle.module_grammar.specs.Spelled.{at}
use Rattle.module_grammar.specs.Symbols.{Bytes}
use Rattle.module_grammar.specs.Symbols as symbols
use Rattle.ir_printer.specs.ExpressionPrinter.Printed.{escaped, quoted}
use Rattle.printed_tokens.proofs.Lexed.{begun_as}
use Rattle.printed_tokens.proofs.Names.{before_quote}
use Rattle.printed_tokens.proofs.Places.{first_is, symbol_at}
use Rattle.printed_tokens.proofs.Prints.{Prints}
use Rattle.printed_tokens.proofs.Quoted.{has_no_quote, means_the_bytes}
use Rattle.printed_tokens.proofs.ReadTexts.{Reads, Stops}
use Rattle.printed_tokens.proofs.Runs.{no_colon, run_piece}
use Rattle.printed_tokens.proofs.TokenWords.{seen_at}
use Rattle.printed_tokens.proofs.TokenWords as kinds
use Rattle.printed_tokens.proofs.WordSymbols.{at_any, key_said}

-- ---- the string alone

closed_is : (raw rest : List ℕ) → begins_with_colon rest ≡ false → closed raw rest ≡ Token (kind.Text (unescaped raw)) (length raw + 2)
unfolding closed unescaped_after
closed_is [] rest none = refl
closed_is (b ∷ raw) rest none = cond-false (begins_with_colon rest) _ _ none

behind_quote : (raw rest : List ℕ) → drop (length raw + 1) (raw ++ 34 ∷ rest) ≡ rest
behind_quote raw rest =
    ap (drop (length raw + 1)) (sym (append_assoc raw (34 ∷ []) rest))
    ∙ ap (λ n. drop n ((raw ++ 34 ∷ []) ++ rest)) (sym (length-append raw (34 ∷ [])))
    ∙ drop-append_seam (raw ++ 34 ∷ []) rest

raw_piece : (raw rest : List ℕ) → list_all is_no_quote raw ≡ true → begins_with_colon rest ≡ false → piece (34 ∷ (raw ++ 34 ∷ rest)) ≡ Token (kind.Text (unescaped raw)) (length raw + 2)
unfolding piece
raw_piece raw rest no_quote none =
    ap (quoted_piece (raw ++ 34 ∷ rest)) (before_quote raw rest no_quote) ∙ ap (closed raw) (behind_quote raw rest) ∙ closed_is raw rest none

string_piece : (bytes rest : List ℕ) → AllByRecursion (λ b. b < 2 ^ 8) bytes → Stops rest → piece (quoted bytes ++ rest) ≡ Token (kind.Text bytes) (length (quoted bytes))
string_piece bytes rest small stop =
    let raw = flat_map escaped bytes in
    let long : length raw + 2 ≡ length (quoted bytes) = omega (arith, length-append raw (34 ∷ [])) in
    ap (λ more. piece (34 ∷ more)) (append_assoc raw (34 ∷ []) rest)
    ∙ raw_piece raw rest (has_no_quote bytes small) (no_colon rest stop)
    ∙ ap (λ text. Token (kind.Text text) (length raw + 2)) (means_the_bytes bytes small)
    ∙ ap (Token (kind.Text bytes)) long

-- ---- behind `c`

c_piece : (more : List ℕ) → piece (99 ∷ 34 ∷ more) ≡ Token (kind.Word (codes "c")) 1
unfolding plain
c_piece more = run_piece 99 [] (34 ∷ more) refl refl

behind_c : (before text : List ℕ) → get_or ((before ++ 99 ∷ []) ++ text) (length (before ++ 99 ∷ []) - 1) 0 ≡ 99
behind_c before text =
    let last : length (before ++ 99 ∷ []) - 1 ≡ length before = omega (arith, length-append before (99 ∷ [])) in
    ap (λ all. get_or all (length (before ++ 99 ∷ []) - 1) 0) (append_assoc before (99 ∷ []) text)
    ∙ ap (λ place. get_or (before ++ 99 ∷ text) place 0) last
    ∙ get_or-append_seam before 99 text 0

bytes_read : (bytes : List ℕ) → AllByRecursion (λ b. b < 2 ^ 8) bytes → Reads Stops (99 ∷ quoted bytes) (kinds.word (codes "c") ∷ kinds.bytes bytes ∷ [])
bytes_read bytes small = record {
  lexes = λ rest seen stop lexes. record {
    at = λ before.
        let text = quoted bytes in
        let front = before ++ 99 ∷ [] in
        let told : seen_at (front ++ (text ++ rest)) (kind.Text bytes) (length front) ≡ kinds.bytes bytes = ap (λ b. (kind.Text bytes, b == 99)) (behind_c before (text ++ rest)) in
        let string = begun_as text rest (kind.Text bytes) (kinds.bytes bytes) seen front (string_piece bytes rest small stop) (omega arith) told (lexes.at (front ++ text)) in
        begun_as (99 ∷ []) (text ++ rest) (kind.Word (codes "c")) (kinds.word (codes "c")) (kinds.bytes bytes ∷ seen) before (c_piece _) (omega arith) refl string;
  };
}

module _ (language : Language) where
  -- `c"abc"`
  pub byte_string : (bytes : List ℕ) → AllByRecursion (λ b. b < 2 ^ 8) bytes
      → Prints language Stops (λ (w : Placed (List ℕ)). symbols.c ∷ Bytes w ∷ []) (λ (w : Placed (List ℕ)). w.what ≡ bytes) (99 ∷ quoted bytes)
  byte_string bytes small = record {
    tokens = kinds.word (codes "c") ∷ kinds.bytes bytes ∷ [];
    reads = bytes_read bytes small;
    is = λ ss there.
        let (i, j, more, first, others) = there in
        let (k, l, none, second, end) = others in
        record {
          tree = at bytes k l;
          are = first_is (symbol_at language (kinds.word (codes "c")) i j) symbols.c ss more (Bytes (at bytes k l) ∷ []) first
              (at_any language (codes "c") _ (key_said language key.Bytes tt) i j) (second ∙ ap (λ m. Bytes (at bytes k l) ∷ m) end);
          names = refl;
        };
  }
