-- The first unexpected token, where things are written as tokens and each token has a kind: the tokens before it begin something that
-- is written, and with it nothing goes on. The kinds of a text are numbered from 0.
--
-- Where sums of digits are written, as `1+2`, the kinds of `1+)2` have their first unexpected token at 2, since `1+1` begins
-- with `1+` and nothing begins with `1+)`; those of `1+` have theirs at 2, the end, since nothing is written as `1+`; and where a
-- whole sum stands, as in `1 2`, it is at 1.
use Rattle.std.specs.Prelude.{◌≡◌, ◌≤◌, ℕ, List, [], ◌∷◌, ◌++◌, length, take, drop, map}

-- some text begins so
abbrev pub Begins : {Token Tree : Type 0} → (Token → ℕ) → (Tree → List Token) → List ℕ → Type 0
Begins {Token} {Tree} kind_of written kinds = (tree : Tree) × (more : List ℕ) × (map kind_of (written tree) ≡ kinds ++ more)

-- no text goes on so: none ends there, where nothing is left, and else none has the next kind there
abbrev pub GoesNowhere : {Token Tree : Type 0} → (Token → ℕ) → (Tree → List Token) → List ℕ → List ℕ → Type 0
GoesNowhere {Token} {Tree} kind_of written before [] = (tree : Tree) → map kind_of (written tree) ≡ before → ⊥
GoesNowhere kind_of written before (k ∷ rest) = Begins kind_of written (before ++ (k ∷ [])) → ⊥

abbrev pub IsUnexpected : {Token Tree : Type 0} → (Token → ℕ) → (Tree → List Token) → List ℕ → ℕ → Type 0
IsUnexpected kind_of written kinds place =
    (place ≤ length kinds)
    × Begins kind_of written (take place kinds)
    × GoesNowhere kind_of written (take place kinds) (drop place kinds)
