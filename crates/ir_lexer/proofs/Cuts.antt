-- One piece after another.
use Rattle.std.proofs.Common.{◌≡◌, ℕ, suc, zero, ◌+◌, ◌-◌, ◌<◌, ◌≤◌, List, [], ◌∷◌, ◌++◌, length, take, drop, get_or, map, Result, Ok, Err, refl, ap, sym, ◌∙◌, subst, append_assoc, arith}
use Rattle.std.proofs.lemmas.List.{append-nil, take_rest, drop_more, drop-drop, length-drop}
use Rattle.ir_lexer.specs.declared.pieces.Outline.{Outline}
use Rattle.ir_lexer.specs.declared.pieces.Outline.TheVariants as outline_is
use Rattle.ir_lexer.specs.declared.token.Kind.{Kind}
use Rattle.ir_lexer.specs.declared.token.LexFault.{LexFault}
use Rattle.ir_lexer.specs.declared.token.LexFault.TheVariants as fault
use Rattle.ir_lexer.specs.declared.token.Token as tokens
use Rattle.ir_lexer.specs.Pieces.{Piece, outline, piece, piece_len, IsWithin}
use Rattle.ir_lexer.specs.Pieces.Piece.{End, Gap, Token, BadByte, BadString, BadNumber}
use Rattle.ir_lexer.specs.Cut.{Cut, Placed, token, behind, joined, cut, unsaid}

-- bytes that belong to what came before only move the place
skipped : (skip place : ℕ) (text : List ℕ) → cut skip place text ≡ cut 0 (place + skip) (drop skip text)
unfolding cut
skipped zero place [] = refl
skipped (suc skip) place [] = refl
skipped zero place (b ∷ rest) = ap (λ p. cut 0 p (b ∷ rest)) (omega arith)
skipped (suc skip) place (b ∷ rest) = skipped skip (place + 1) rest ∙ ap (λ p. cut 0 p (drop skip rest)) (omega arith)

further : (place len b : ℕ) (rest : List ℕ) → 1 ≤ len → cut (len - 1) (place + 1) rest ≡ cut 0 (place + len) (drop len (b ∷ rest))
further place zero b rest some = absurd (omega arith)
further place (suc n) b rest some =
    let less : suc n - 1 ≡ n = omega arith in
    let moved : place + 1 + n ≡ place + suc n = omega arith in
    ap (λ k. cut k (place + 1) rest) less ∙ skipped n (place + 1) rest ∙ ap (λ p. cut 0 p (drop n rest)) moved

further_joined : (place b room : ℕ) (rest : List ℕ) (p : Piece) → IsWithin (outline p) room → joined place p (cut (piece_len p - 1) (place + 1) rest) ≡ joined place p (cut 0 (place + piece_len p) (drop (piece_len p) (b ∷ rest)))
further_joined place b room rest (Gap len) within = further place len b rest within.0
further_joined place b room rest (Token kind len) within = ap (behind (token kind place (place + len) ∷ [])) (further place len b rest within.0)
further_joined place b room rest End within = refl
further_joined place b room rest BadByte within = refl
further_joined place b room rest (BadString offset) within = refl
further_joined place b room rest BadNumber within = refl

-- the piece at the front, and what is cut behind it
pub front : (place room : ℕ) (text : List ℕ) (p : Piece) → p ≡ piece text → IsWithin (outline p) room → cut 0 place text ≡ joined place p (cut 0 (place + piece_len p) (drop (piece_len p) text))
unfolding cut piece
front place room [] p is within = ap (λ q. joined place q (cut 0 (place + piece_len q) (drop (piece_len q) []))) (sym is)
front place room (b ∷ rest) p is within =
    ap (λ q. joined place q (cut (piece_len q - 1) (place + 1) rest)) (sym is) ∙ further_joined place b room rest p within

space_skipped : (place : ℕ) (rest : List ℕ) → cut 0 place (32 ∷ rest) ≡ cut 0 (place + 1) rest
unfolding cut piece
space_skipped place rest = refl

-- ---- without what is said

abbrev pub Bare : Type 0
Bare = Result (List tokens.Token) LexFault

abbrev pub bare : Cut → Bare
bare (Ok placed) = Ok (map unsaid placed)
bare (Err fault) = Err fault

abbrev pub behind_bare : List tokens.Token → Bare → Bare
behind_bare done (Ok more) = Ok (done ++ more)
behind_bare done (Err fault) = Err fault

-- a token of that kind at that place
abbrev pub at_place : Kind → ℕ → ℕ → tokens.Token
at_place kind start end = record { kind = kind; start = start; end = end }

abbrev pub joined_bare : ℕ → Outline → Bare → Bare
joined_bare place outline_is.End more = Ok []
joined_bare place (outline_is.Gap len) more = more
joined_bare place (outline_is.Token kind len) more = behind_bare (at_place kind place (place + len) ∷ []) more
joined_bare place outline_is.BadByte more = Err (fault.BadByte place)
joined_bare place (outline_is.BadString offset) more = Err (fault.BadString (place + offset))
joined_bare place outline_is.BadNumber more = Err (fault.BadNumber place)

abbrev outline_len : Outline → ℕ
outline_len (outline_is.Gap len) = len
outline_len (outline_is.Token kind len) = len
outline_len outline_is.End = 0
outline_len outline_is.BadByte = 0
outline_len (outline_is.BadString offset) = 0
outline_len outline_is.BadNumber = 0

len_alone : (p : Piece) → piece_len p ≡ outline_len (outline p)
len_alone End = refl
len_alone (Gap len) = refl
len_alone (Token kind len) = refl
len_alone BadByte = refl
len_alone (BadString offset) = refl
len_alone BadNumber = refl

bare_behind : (t : Placed) (more : Cut) → bare (behind (t ∷ []) more) ≡ behind_bare (unsaid t ∷ []) (bare more)
bare_behind t (Ok placed) = refl
bare_behind t (Err fault) = refl

bare_joined : (place : ℕ) (p : Piece) (more : Cut) → bare (joined place p more) ≡ joined_bare place (outline p) (bare more)
bare_joined place End more = refl
bare_joined place (Gap len) more = refl
bare_joined place (Token kind len) more = bare_behind (token kind place (place + len)) more
bare_joined place BadByte more = refl
bare_joined place (BadString offset) more = refl
bare_joined place BadNumber more = refl

front_bare : (place room : ℕ) (text : List ℕ) (o : Outline) → o ≡ outline (piece text) → IsWithin o room → bare (cut 0 place text) ≡ joined_bare place o (bare (cut 0 (place + outline_len o) (drop (outline_len o) text)))
front_bare place room text o is within =
    let p = piece text in
    ap bare (front place room text p refl (subst (λ o. IsWithin o room) is within))
    ∙ bare_joined place p _
    ∙ ap (λ n. joined_bare place (outline p) (bare (cut 0 (place + n) (drop n text)))) (len_alone p)
    ∙ ap (λ o. joined_bare place o (bare (cut 0 (place + outline_len o) (drop (outline_len o) text)))) (sym is)

behind_more : (done more : List tokens.Token) (rest : Bare) → behind_bare done (behind_bare more rest) ≡ behind_bare (done ++ more) rest
behind_more done more (Ok tokens) = ap Ok (sym (append_assoc done more tokens))
behind_more done more (Err fault) = refl

-- a fault is said by both
fault_bare : (whole : Cut) (f : LexFault) → bare whole ≡ Err f → whole ≡ Err f
fault_bare (Ok placed) f is = cc
fault_bare (Err g) f is = cc

-- a space only moves the place
pub at_space : (done : List tokens.Token) (place : ℕ) (text : List ℕ) (other : ℕ) → behind_bare done (bare (cut 0 place (drop place text))) ≡ bare (cut 0 0 text) → place < length text → get_or text place other ≡ 32 → behind_bare done (bare (cut 0 (place + 1) (drop (place + 1) text))) ≡ bare (cut 0 0 text)
at_space done place text other whole inside is =
    let here = drop_more text place other inside ∙ ap (λ (b : ℕ). b ∷ drop (place + 1) text) is in
    sym (ap (λ more. behind_bare done (bare (cut 0 place more))) here ∙ ap (λ more. behind_bare done (bare more)) (space_skipped place (drop (place + 1) text))) ∙ whole

-- what the loop of the code has read: the tokens so far, the place of the rest, and the whole text
module _ (done : List tokens.Token) (place : ℕ) (text : List ℕ) (whole : behind_bare done (bare (cut 0 place (drop place text))) ≡ bare (cut 0 0 text)) (q : Outline) (is : q ≡ outline (piece (take (length text - place) (drop place text)))) (within : IsWithin q (length (take (length text - place) (drop place text)))) where
  at_front : (o : Outline) → q ≡ o → bare (cut 0 0 text) ≡ behind_bare done (joined_bare place o (bare (cut 0 (place + outline_len o) (drop (place + outline_len o) text))))
  at_front o e =
      let here = is ∙ ap (λ rest. outline (piece rest)) (take_rest text place) in
      sym whole
      ∙ ap (behind_bare done) (front_bare place (length (take (length text - place) (drop place text))) (drop place text) o (sym e ∙ here) (subst (λ r. IsWithin r (length (take (length text - place) (drop place text)))) e within))
      ∙ ap (λ more. behind_bare done (joined_bare place o (bare (cut 0 (place + outline_len o) more)))) (drop-drop (outline_len o) place text)

  pub at_end : q ≡ outline_is.End → bare (cut 0 0 text) ≡ Ok done
  at_end e = at_front outline_is.End e ∙ ap Ok (append-nil done)

  pub at_bad_byte : q ≡ outline_is.BadByte → cut 0 0 text ≡ Err (fault.BadByte place)
  at_bad_byte e = fault_bare (cut 0 0 text) _ (at_front outline_is.BadByte e)

  pub at_bad_string : (offset : ℕ) → q ≡ outline_is.BadString offset → cut 0 0 text ≡ Err (fault.BadString (place + offset))
  at_bad_string offset e = fault_bare (cut 0 0 text) _ (at_front (outline_is.BadString offset) e)

  pub at_bad_number : q ≡ outline_is.BadNumber → cut 0 0 text ≡ Err (fault.BadNumber place)
  at_bad_number e = fault_bare (cut 0 0 text) _ (at_front outline_is.BadNumber e)

  pub at_gap : (len : ℕ) → q ≡ outline_is.Gap len → behind_bare done (bare (cut 0 (place + len) (drop (place + len) text))) ≡ bare (cut 0 0 text)
  at_gap len e = sym (at_front (outline_is.Gap len) e)

  pub at_token : (kind : Kind) (len : ℕ) (items : List tokens.Token) → q ≡ outline_is.Token kind len → items ≡ done ++ at_place kind place (place + len) ∷ [] → behind_bare items (bare (cut 0 (place + len) (drop (place + len) text))) ≡ bare (cut 0 0 text)
  at_token kind len items e pushed =
      ap (λ front. behind_bare front (bare (cut 0 (place + len) (drop (place + len) text)))) pushed
      ∙ sym (behind_more done (at_place kind place (place + len) ∷ []) (bare (cut 0 (place + len) (drop (place + len) text))))
      ∙ sym (at_front (outline_is.Token kind len) e)

-- the place of what is left
pub further_on : (place len : ℕ) (text : List ℕ) → place ≤ length text → len ≤ length (take (length text - place) (drop place text)) → place + len ≤ length text
further_on place len text reached within =
    let left : length (take (length text - place) (drop place text)) ≡ length text - place = ap length (take_rest text place) ∙ length-drop place text in
    omega arith
