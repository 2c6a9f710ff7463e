-- The tokens of a text begin one behind the other, so that at one place there is one.
use Rattle.std.proofs.Common.{◌≡◌, ◌+◌, ◌-◌, ◌≤◌, ℕ, zero, suc, List, [], ◌∷◌, Ok, Err, ⊎_elim, ap, sym, ◌∙◌, subst, arith}
use Rattle.std.specs.List.{Contains}
use Rattle.ir_lexer.specs.Cut.{Cut, Placed, cut, joined}
use Rattle.ir_lexer.specs.Pieces.{Piece, piece, piece_len}
use Rattle.named_modules.proofs.Lists.{contains_cases}

-- ---- what begins one behind the other

-- each begins behind where the one in front of it does, and the first here or behind that
abbrev pub Rise : {A : Type 0} → (A → ℕ) → ℕ → List A → Type 0
Rise start n [] = Unit {0}
Rise start n (x ∷ xs) = (n ≤ start x) × Rise start (start x + 1) xs

pub no_sooner : {A : Type 0} (start : A → ℕ) (n : ℕ) (xs : List A) → Rise start n xs → (a : A) → Contains xs a → n ≤ start a
no_sooner start n [] rise a there = absurd (omega (arith, there.1))
no_sooner start n (x ∷ xs) rise a there =
    ⊎_elim (λ e. subst (λ y. n ≤ start y) e rise.0)
    (λ more. let later = no_sooner start (start x + 1) xs rise.1 a more in omega (arith, rise.0, later))
    (contains_cases x a xs there)

not_again : {A : Type 0} (start : A → ℕ) (x : A) (xs : List A) → Rise start (start x + 1) xs → (a b : A) → x ≡ a → Contains xs b → start a ≡ start b → ⊥
not_again start x xs rise a b is more same =
    let later = no_sooner start (start x + 1) xs rise b more in
    let here : start x ≡ start a = ap start is in
    omega (arith, later, here, same)

-- two that begin at one place are one
pub one_at : {A : Type 0} (start : A → ℕ) (n : ℕ) (xs : List A) → Rise start n xs → (a b : A) → Contains xs a → Contains xs b → start a ≡ start b → a ≡ b
one_at start n [] rise a b here there same = absurd (omega (arith, here.1))
one_at start n (x ∷ xs) rise a b here there same =
    ⊎_elim
    (λ e. ⊎_elim (λ d. sym e ∙ d) (λ more. absurd (not_again start x xs rise.1 a b e more same)) (contains_cases x b xs there))
    (λ more. ⊎_elim (λ d. absurd (not_again start x xs rise.1 b a d more (sym same))) (λ rest. one_at start (start x + 1) xs rise.1 a b more rest same) (contains_cases x b xs there))
    (contains_cases x a xs here)

-- ---- tokens

abbrev pub start_of : Placed → ℕ
start_of t = t.start

abbrev pub AreFrom : ℕ → List Placed → Type 0
AreFrom = Rise start_of

abbrev IsFrom : ℕ → Cut → Type 0
IsFrom n (Ok tokens) = AreFrom n tokens
IsFrom n (Err f) = Unit {0}

sooner_tokens : (n m : ℕ) (ts : List Placed) → m ≤ n → AreFrom n ts → AreFrom m ts
sooner_tokens n m [] less from = tt
sooner_tokens n m (t ∷ ts) less from = (omega (arith, less, from.0), from.1)

sooner : (n m : ℕ) (c : Cut) → m ≤ n → IsFrom n c → IsFrom m c
sooner n m (Ok tokens) less from = sooner_tokens n m tokens less from
sooner n m (Err f) less from = tt

joined_from : (place : ℕ) (p : Piece) (more : Cut) → IsFrom (place + 1) more → IsFrom place (joined place p more)
joined_from place Piece.End more from = tt
joined_from place (Piece.Gap len) more from = sooner (place + 1) place more (omega arith) from
joined_from place (Piece.Token k len) (Ok tokens) from = (omega arith, from)
joined_from place (Piece.Token k len) (Err f) from = tt
joined_from place Piece.BadByte more from = tt
joined_from place (Piece.BadString offset) more from = tt
joined_from place Piece.BadNumber more from = tt

cut_from : (skip place : ℕ) (text : List ℕ) → IsFrom place (cut skip place text)
unfolding cut
cut_from skip place [] = tt
cut_from (suc skip) place (b ∷ rest) = sooner (place + 1) place (cut skip (place + 1) rest) (omega arith) (cut_from skip (place + 1) rest)
cut_from zero place (b ∷ rest) =
    joined_from place (piece (b ∷ rest)) (cut (piece_len (piece (b ∷ rest)) - 1) (place + 1) rest)
    (cut_from (piece_len (piece (b ∷ rest)) - 1) (place + 1) rest)

pub tokens_from : (text : List ℕ) (tokens : List Placed) → cut 0 0 text ≡ Ok tokens → AreFrom 0 tokens
tokens_from text tokens e = subst (IsFrom 0) e (cut_from 0 0 text)
