-- What the front of a text is cut into.
use Rattle.std.proofs.Common.{◌≡◌, ℕ, ◌+◌, ◌<◌, ◌≤◌, Bool, true, false, not, List, [], ◌∷◌, ◌++◌, length, append_assoc, length-append, Some, Ok, Err, arith, refl, ap, sym, ◌∙◌}
use Rattle.std.specs.List.{list_all, take_while}
use Rattle.std.proofs.lemmas.Bool.{and_parts, not-true, cond-true, cond-false}
use Rattle.std.proofs.lemmas.List.Sums.{take_while-cons}
use Rattle.std.proofs.Math.Seq.{drop-append_seam}
use Rattle.ir_types.specs.declared.names.Sigil.{Sigil}
use Rattle.ir_types.specs.declared.names.Sigil.TheVariants.{Local, Global}
use Rattle.ir_types.specs.declared.names.Name.{Name}
use Rattle.ir_lexer.specs.declared.token.TokenKind.{TokenKind}
use Rattle.ir_lexer.specs.Cut.{Cut, token, behind, cut}
use Rattle.ir_lexer.specs.Names.{name_at}
use Rattle.ir_lexer.specs.Names.NameAt.{Found}
use Rattle.ir_lexer.specs.Pieces.{piece}
use Rattle.ir_lexer.specs.Pieces.Piece.{Gap, Token}
use Rattle.ir_lexer.proofs.Cuts.{front}
use Rattle.ir_printer.specs.ExpressionPrinter.Printed.{sigil_byte}
use Rattle.printed_tokens.proofs.TokenWords.{Seen, alone, is_text, seen_at, seen_cut}
use Rattle.printed_tokens.proofs.TokenWords as kinds_word

-- the text is at its end, or its first byte fails the test
abbrev pub stops : (ℕ → Bool) → List ℕ → Bool
stops p [] = true
stops p (b ∷ rest) = not (p b)

none_taken : (p : ℕ → Bool) (rest : List ℕ) → stops p rest ≡ true → take_while p rest ≡ []
none_taken p [] h = refl
none_taken p (b ∷ rest) h = take_while-cons p b rest ∙ cond-false (p b) _ _ (not-true (p b) h)

pub taken : (p : ℕ → Bool) (xs rest : List ℕ) → list_all p xs ≡ true → stops p rest ≡ true → take_while p (xs ++ rest) ≡ xs
taken p [] rest all h = none_taken p rest h
taken p (x ∷ xs) rest all h =
    let parts = and_parts (p x) (list_all p xs) all in
    take_while-cons p x (xs ++ rest) ∙ cond-true (p x) _ _ parts.0 ∙ ap (λ more. x ∷ more) (taken p xs rest parts.1 h)

-- ---- one token after another

-- These tokens are seen of a text, whatever stands before it.
pub record Lexes (text : List ℕ) (seen : List Seen) : Type 0 where
  pub at : (before : List ℕ) → seen_cut (before ++ text) (cut 0 (length before) text) ≡ Some seen

pub nothing : Lexes [] []
unfolding cut
nothing = record { at = λ before. refl }

one_more : (whole : List ℕ) (k : TokenKind) (seen : List Seen) (start end : ℕ) (more : Cut) → seen_cut whole more ≡ Some seen
    → seen_cut whole (behind (token k start end ∷ []) more) ≡ Some (seen_at whole k start ∷ seen)
one_more whole k seen start end (Ok tokens) is = cc
one_more whole k seen start end (Err fault) is = cc

-- what is cut behind these bytes, as behind all that stands before it
pub moved : (before text rest : List ℕ) (seen : List Seen) → seen_cut ((before ++ text) ++ rest) (cut 0 (length (before ++ text)) rest) ≡ Some seen
    → seen_cut (before ++ (text ++ rest)) (cut 0 (length before + length text) rest) ≡ Some seen
moved before text rest seen is =
    ap (λ whole. seen_cut whole (cut 0 (length before + length text) rest)) (sym (append_assoc before text rest))
    ∙ ap (λ place. seen_cut ((before ++ text) ++ rest) (cut 0 place rest)) (sym (length-append before text))
    ∙ is

-- a token that these bytes spell, of which this is seen
pub begun_as : (text rest : List ℕ) (k : TokenKind) (s : Seen) (seen : List Seen) (before : List ℕ) → piece (text ++ rest) ≡ Token k (length text) → 0 < length text
    → seen_at (before ++ (text ++ rest)) k (length before) ≡ s → seen_cut ((before ++ text) ++ rest) (cut 0 (length (before ++ text)) rest) ≡ Some seen
    → seen_cut (before ++ (text ++ rest)) (cut 0 (length before) (text ++ rest)) ≡ Some (s ∷ seen)
begun_as text rest k s seen before is some told more =
    let place = length before in
    let whole = before ++ (text ++ rest) in
    let long : length text ≤ length (text ++ rest) = omega (arith, length-append text rest) in
    ap (seen_cut whole) (front place (length (text ++ rest)) (text ++ rest) (Token k (length text)) (sym is) (omega arith, long))
    ∙ ap (λ more. seen_cut whole (behind (token k place (place + length text) ∷ []) (cut 0 (place + length text) more))) (drop-append_seam text rest)
    ∙ one_more whole k seen place (place + length text) (cut 0 (place + length text) rest) (moved before text rest seen more)
    ∙ ap (λ t. Some (t ∷ seen)) told

not_told : (whole : List ℕ) (k : TokenKind) (place : ℕ) → is_text k ≡ false → seen_at whole k place ≡ alone k
not_told whole k place none = rw none refl

-- the same of a token that is no string
pub begun : (text rest : List ℕ) (k : TokenKind) (seen : List Seen) → is_text k ≡ false → piece (text ++ rest) ≡ Token k (length text) → 0 < length text → Lexes rest seen → Lexes (text ++ rest) (alone k ∷ seen)
begun text rest k seen none is some lexes = record {
  at = λ before. begun_as text rest k (alone k) seen before is some (not_told (before ++ (text ++ rest)) k (length before) none) (lexes.at (before ++ text));
}

-- a gap, whatever stands behind it
pub passed : (text rest : List ℕ) (seen : List Seen) → piece (text ++ rest) ≡ Gap (length text) → 0 < length text → Lexes rest seen → Lexes (text ++ rest) seen
passed text rest seen is some lexes = record {
  at = λ before.
      let place = length before in
      let whole = before ++ (text ++ rest) in
      let long : length text ≤ length (text ++ rest) = omega (arith, length-append text rest) in
      ap (seen_cut whole) (front place (length (text ++ rest)) (text ++ rest) (Gap (length text)) (sym is) (omega arith, long))
      ∙ ap (λ more. seen_cut whole (cut 0 (place + length text) more)) (drop-append_seam text rest)
      ∙ moved before text rest seen (lexes.at (before ++ text));
}

-- a name behind its sigil
named : (sigil : Sigil) (name : Name) (text rest : List ℕ) → name_at (text ++ rest) ≡ Found name (length text) → piece (sigil_byte sigil ∷ (text ++ rest)) ≡ Token (kinds_word.name_kind sigil name) (length (sigil_byte sigil ∷ text))
unfolding piece
named Local name text rest is = rw is (ap (λ len. Token (kinds_word.name_kind Local name) len) (omega arith))
named Global name text rest is = rw is (ap (λ len. Token (kinds_word.name_kind Global name) len) (omega arith))

no_string : (sigil : Sigil) (name : Name) → is_text (kinds_word.name_kind sigil name) ≡ false
no_string Local name = refl
no_string Global name = refl

pub name : (sigil : Sigil) (n : Name) (text rest : List ℕ) (seen : List Seen) → name_at (text ++ rest) ≡ Found n (length text) → Lexes rest seen → Lexes (sigil_byte sigil ∷ (text ++ rest)) (kinds_word.name sigil n ∷ seen)
name sigil n text rest seen is lexes =
    begun (sigil_byte sigil ∷ text) rest (kinds_word.name_kind sigil n) seen (no_string sigil n) (named sigil n text rest is) (omega arith) lexes
