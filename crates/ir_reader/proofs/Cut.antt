-- The fault of a text that is cut is none of a limit or of memory.
use Rattle.std.proofs.Common.{◌+◌, ◌-◌, ℕ, zero, suc, List, [], ◌∷◌, Ok, Err}
use Rattle.ir_lexer.specs.declared.token.LexFault.TheVariants as lexer
use Rattle.ir_lexer.specs.Cut.{Cut, cut, joined}
use Rattle.ir_lexer.specs.Pieces.{Piece, piece, piece_len}

abbrev pub IsCutWell : Cut → Type 0
IsCutWell (Ok tokens) = Unit {0}
IsCutWell (Err lexer.Memory) = ⊥
IsCutWell (Err (lexer.Limit l)) = ⊥
IsCutWell (Err _) = Unit {0}

joined_well : (place : ℕ) (p : Piece) (more : Cut) → IsCutWell more → IsCutWell (joined place p more)
joined_well place Piece.End more well = tt
joined_well place (Piece.Gap len) more well = well
joined_well place (Piece.Token k len) (Ok tokens) well = tt
joined_well place (Piece.Token k len) (Err fault) well = well
joined_well place Piece.BadByte more well = tt
joined_well place (Piece.BadString offset) more well = tt
joined_well place Piece.BadNumber more well = tt

pub cut_well : (skip place : ℕ) (text : List ℕ) → IsCutWell (cut skip place text)
unfolding cut
cut_well skip place [] = tt
cut_well (suc skip) place (b ∷ rest) = cut_well skip (place + 1) rest
cut_well zero place (b ∷ rest) = joined_well place (piece (b ∷ rest)) (cut (piece_len (piece (b ∷ rest)) - 1) (place + 1) rest) (cut_well (piece_len (piece (b ∷ rest)) - 1) (place + 1) rest)
