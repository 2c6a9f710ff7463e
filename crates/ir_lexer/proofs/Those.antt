-- The tokens of a text say in it what is said of them where they stand.
use Rattle.std.proofs.Common.{◌≡◌, ℕ, suc, zero, ◌+◌, ◌-◌, List, [], ◌∷◌, take, drop, map, Ok, Err, refl, ap, sym, ◌∙◌, arith}
use Rattle.std.proofs.lemmas.List.{drop-drop}
use Rattle.ir_lexer.specs.declared.token.Token as tokens
use Rattle.ir_lexer.specs.declared.token.TokenKind.{TokenKind}
use Rattle.ir_lexer.specs.Cut.{AreThoseOf, Cut, Placed, behind, cut, joined, token, unsaid}
use Rattle.ir_lexer.specs.Pieces.{Piece, kind_alone, piece, piece_len}
use Rattle.ir_lexer.specs.Pieces.Piece.{End, Gap, Token, BadByte, BadString, BadNumber}
use Rattle.ir_lexer.specs.Said.{said, said_in}
use Rattle.ir_lexer.proofs.Agrees.{piece_said, token_said}
use Rattle.ir_lexer.proofs.Cuts.{bare}

abbrev AreSaid : List ℕ → Cut → Type 0
AreSaid text (Ok placed) = map (said_in text) (map unsaid placed) ≡ map (λ (t : Placed). t.kind) placed
AreSaid text (Err fault) = Unit {0}

one_more : (text : List ℕ) (k : TokenKind) (start end : ℕ) (more : Cut) → said_in text (unsaid (token k start end)) ≡ k → AreSaid text more → AreSaid text (behind (token k start end ∷ []) more)
one_more text k start end (Ok placed) here there = ap (λ (first : TokenKind). first ∷ map (said_in text) (map unsaid placed)) here ∙ ap (λ kinds. k ∷ kinds) there
one_more text k start end (Err fault) here there = tt

said_there : (text rest : List ℕ) (place len : ℕ) (k : TokenKind) → drop place text ≡ rest → said (kind_alone k) (take len rest) ≡ k → said_in text (unsaid (token k place (place + len))) ≡ k
said_there text rest place len k at is =
    let less : place + len - place ≡ len = omega arith in
    ap (λ n. said (kind_alone k) (take n (drop place text))) less ∙ ap (λ bytes. said (kind_alone k) (take len bytes)) at ∙ is

joined_said : (text rest : List ℕ) (place : ℕ) (p : Piece) (more : Cut) → drop place text ≡ rest → p ≡ piece rest → AreSaid text more → AreSaid text (joined place p more)
joined_said text rest place End more at is there = refl
joined_said text rest place (Gap len) more at is there = there
joined_said text rest place (Token k len) more at is there =
    one_more text k place (place + len) more (said_there text rest place len k at (token_said rest (piece rest) (piece_said rest) k len (sym is))) there
joined_said text rest place BadByte more at is there = tt
joined_said text rest place (BadString offset) more at is there = tt
joined_said text rest place BadNumber more at is there = tt

one_further : (text : List ℕ) (place b : ℕ) (rest : List ℕ) → drop place text ≡ b ∷ rest → drop (place + 1) text ≡ rest
one_further text place b rest at = sym (drop-drop 1 place text) ∙ ap (drop 1) at

cut_said : (text : List ℕ) (skip place : ℕ) (rest : List ℕ) → drop place text ≡ rest → AreSaid text (cut skip place rest)
unfolding cut
cut_said text skip place [] at = refl
cut_said text (suc skip) place (b ∷ rest) at = cut_said text skip (place + 1) rest (one_further text place b rest at)
cut_said text zero place (b ∷ rest) at =
    joined_said text (b ∷ rest) place (piece (b ∷ rest)) (cut (piece_len (piece (b ∷ rest)) - 1) (place + 1) rest) at refl
    (cut_said text (piece_len (piece (b ∷ rest)) - 1) (place + 1) rest (one_further text place b rest at))

those_of : (text : List ℕ) (items : List tokens.Token) (whole : Cut) → bare whole ≡ Ok items → AreSaid text whole → AreThoseOf text items whole
those_of text items (Ok placed) is there =
    let same : items ≡ map unsaid placed = cc in
    (same, ap (map (said_in text)) same ∙ there)
those_of text items (Err fault) is there = absurd cc

-- the tokens that the code found
pub are_those : (text : List ℕ) (items : List tokens.Token) → bare (cut 0 0 text) ≡ Ok items → AreThoseOf text items (cut 0 0 text)
are_those text items is = those_of text items (cut 0 0 text) is (cut_said text 0 0 text refl)
