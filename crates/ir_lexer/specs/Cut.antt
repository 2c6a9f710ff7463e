-- The tokens of a text, or its first fault.
use Rattle.std.specs.Prelude.{ℕ, map, suc, zero, ◌+◌, ◌-◌, ◌<◌, ◌≤◌, ◌≡◌, List, [], ◌∷◌, ◌++◌, length, Result, Ok, Err, nat_lt, if◌then◌else◌}
use Rattle.ir_core.specs.declared.limits.Limit.TheVariants as limit
use Rattle.ir_core.specs.Limits.{text_limit}
use Rattle.ir_lexer.specs.declared.token.Kind.{Kind}
use Rattle.ir_lexer.specs.declared.token.LexFault.{LexFault}
use Rattle.ir_lexer.specs.declared.token.LexFault.TheVariants.{BadByte, BadString, BadNumber, Memory, Limit}
use Rattle.ir_lexer.specs.declared.token.Token.{Token}
use Rattle.ir_lexer.specs.declared.token.TokenKind.{TokenKind}
use Rattle.ir_lexer.specs.Pieces.{Piece, kind_alone, piece, piece_len}
use Rattle.ir_lexer.specs.Said.{said_in}

-- a token with what it says, and the bytes that spell it: from `start` up to `end`, counted from 0
pub record Placed : Type 0 where
  pub kind : TokenKind
  pub start : ℕ
  pub end : ℕ

abbrev pub Cut : Type 0
Cut = Result (List Placed) LexFault

abbrev pub token : TokenKind → ℕ → ℕ → Placed
token kind start end = record { kind = kind; start = start; end = end }

-- these tokens, and then what is cut behind them
abbrev pub behind : List Placed → Cut → Cut
behind tokens (Ok more) = Ok (tokens ++ more)
behind tokens (Err fault) = Err fault

-- the piece that begins at place, and then what is cut behind it
abbrev pub joined : ℕ → Piece → Cut → Cut
joined place Piece.End more = Ok []
joined place (Piece.Gap len) more = more
joined place (Piece.Token kind len) more = behind (token kind place (place + len) ∷ []) more
joined place Piece.BadByte more = Err (BadByte place)
joined place (Piece.BadString offset) more = Err (BadString (place + offset))
joined place Piece.BadNumber more = Err (BadNumber place)

-- what a text is cut into whose first byte is at place, where the first `skip` bytes belong to what came before
unfoldable pub cut : ℕ → ℕ → List ℕ → Cut
cut skip place [] = Ok []
cut (suc skip) place (b ∷ rest) = cut skip (place + 1) rest
cut zero place (b ∷ rest) =
    joined place (piece (b ∷ rest)) (cut (piece_len (piece (b ∷ rest)) - 1) (place + 1) rest)

-- A text has tokens only up to the limit of its length.
abbrev pub lexed : List ℕ → Cut
lexed text = if nat_lt text_limit (length text) then Err (Limit limit.Text) else cut 0 0 text

-- a token of that kind that goes from start up to end
abbrev pub bare_token : Kind → ℕ → ℕ → Token
bare_token kind start end = record { kind = kind; start = start; end = end }

-- without what it says
abbrev pub unsaid : Placed → Token
unsaid t = record { kind = kind_alone t.kind; start = t.start; end = t.end }

-- These tokens are those that the text is cut into, each of its kind and at its place, and each says in the text what is said there.
abbrev pub AreThoseOf : List ℕ → List Token → Cut → Type 0
AreThoseOf text tokens (Ok placed) =
    (tokens ≡ map unsaid placed) × (map (said_in text) tokens ≡ map (λ (t : Placed). t.kind) placed)
AreThoseOf text tokens (Err fault) = ⊥

-- each token has bytes of its own, begins where the one in front of it ends or behind that, and all stand from `from` up to `to`
abbrev pub AreInOrder : ℕ → ℕ → List Token → Type 0
AreInOrder from to [] = from ≤ to
AreInOrder from to (t ∷ tokens) = (from ≤ t.start) × (t.start < t.end) × AreInOrder t.end to tokens

-- the fault is that of the text; want of memory says nothing of it
abbrev pub IsFaultOf : LexFault → Cut → Type 0
IsFaultOf (BadByte place) cut = cut ≡ Err (BadByte place)
IsFaultOf (BadString place) cut = cut ≡ Err (BadString place)
IsFaultOf (BadNumber place) cut = cut ≡ Err (BadNumber place)
IsFaultOf (Limit l) cut = cut ≡ Err (Limit l)
IsFaultOf Memory cut = Unit {0}

-- the text is too long
abbrev pub IsLimit : LexFault → Type 0
IsLimit fault = fault ≡ Limit limit.Text
