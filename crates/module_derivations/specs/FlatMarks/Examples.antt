-- Examples of flat derivations: 0 is a pair, with the one rule `( value , value )`; 1 is a value, with the rules `NUMBER` and `PAIR`. The kind of
-- a number is 3.
use Rattle.std.specs.Prelude.{◌≡◌, ℕ, Bool, not, nat_eq, [], ◌∷◌}
use Rattle.predictive.specs.Grammar.{End, Forest, Leaf, Node}
use Rattle.module_derivations.specs.FlatMarks.Flat.{Rule, Token, mark_of, marks_from, parts, skip}

-- all rules but that of a pair, and numbers
abbrev pub chosen : ℕ → Bool
chosen p = not (nat_eq p 0)

abbrev pub says : ℕ → Bool
says k = nat_eq k 3

abbrev pub number : Forest → Forest
number f = Node 1 (Leaf 3 End) f

abbrev pub pair : (Forest → Forest) → (Forest → Forest) → Forest → Forest
pair first second f = Node 0 (Leaf 0 (first (Leaf 1 (second (Leaf 2 End))))) f

-- (7,(8,9))
abbrev pub nested : Forest
nested = pair number (λ f. Node 2 (pair number number End) f) End

-- how many parts a value is, behind the rule's beginning
abbrev pub arity : ℕ → ℕ
arity p = p

pub record MarksAreWritten : Type 0 where
  pub of_pair : marks_from chosen says 0 (pair number number End) ≡ Rule 1 ∷ Token 1 ∷ Rule 1 ∷ Token 3 ∷ []
  pub of_nested : marks_from chosen says 0 nested ≡ Rule 1 ∷ Token 1 ∷ Rule 2 ∷ Rule 1 ∷ Token 4 ∷ Rule 1 ∷ Token 6 ∷ []
  -- the part of a token is its place, and that of a rule its number; two parts stand ahead, and what is theirs is passed
  pub ahead : parts arity (λ p ps. p) (λ i. i) (Rule 1 ∷ Token 1 ∷ Rule 2 ∷ Rule 1 ∷ Token 4 ∷ Rule 1 ∷ Token 6 ∷ []) ≡ 1 ∷ 2 ∷ []
  -- the second part has two behind its beginning
  pub inside : parts arity (λ p ps. p) (λ i. i) (Rule 1 ∷ Token 4 ∷ Rule 1 ∷ Token 6 ∷ []) ≡ 1 ∷ 1 ∷ []
  pub skipped : skip {P = ℕ} 2 (5 ∷ 6 ∷ 7 ∷ []) ≡ 7 ∷ []
  -- by number
  pub rule : mark_of 205 ≡ Rule 205
  pub last : mark_of 2147483647 ≡ Rule 2147483647
  pub first_token : mark_of 2147483648 ≡ Token 0
  pub token : mark_of 2147483655 ≡ Token 7
