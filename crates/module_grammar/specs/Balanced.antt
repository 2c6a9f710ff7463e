-- Text of which nothing is kept: any tokens in which ( ) [ ] { } pair off.
use Rattle.std.specs.Prelude.{◌≡◌, ℕ, Bool, true, not, ◌&&◌, ◌||◌, nat_eq, nat_lt, List, [], ◌∷◌, ◌++◌}
use Rattle.module_grammar.specs.Symbols.{Symbol, Bracket, Brace, kind_of, open_paren, close_paren, close_bracket, close_brace, balanced}

abbrev pub is_paren : ℕ → Bool
is_paren k = nat_eq k (kind_of open_paren) || nat_eq k (kind_of close_paren)

abbrev pub is_bracket : ℕ → Bool
is_bracket k = nat_eq k (kind_of (Bracket 0)) || nat_eq k (kind_of close_bracket)

abbrev pub is_brace : ℕ → Bool
is_brace k = nat_eq k (kind_of (Brace 0)) || nat_eq k (kind_of close_brace)

-- a kind of tokens, all of which come before `balanced`, but of none of ( ) [ ] { }
abbrev pub is_plain_kind : ℕ → Bool
is_plain_kind k = nat_lt k (kind_of balanced) && not (is_paren k || (is_bracket k || is_brace k))

abbrev pub is_plain : Symbol → Bool
is_plain s = is_plain_kind (kind_of s)

-- Nothing, or one of these and then more that is balanced: a token that is none of ( ) [ ] { }, or something balanced between ( and ), [ and ], or
-- { and }.
pub data IsBalanced : List Symbol → Type 0 where
  nothing : IsBalanced []
  token : (s : Symbol) (more : List Symbol) → is_plain s ≡ true → IsBalanced more → IsBalanced (s ∷ more)
  parens : (inside more : List Symbol) → IsBalanced inside → IsBalanced more → IsBalanced (open_paren ∷ (inside ++ (close_paren ∷ more)))
  brackets : (at : ℕ) (inside more : List Symbol) → IsBalanced inside → IsBalanced more → IsBalanced (Bracket at ∷ (inside ++ (close_bracket ∷ more)))
  braces : (at : ℕ) (inside more : List Symbol) → IsBalanced inside → IsBalanced more → IsBalanced (Brace at ∷ (inside ++ (close_brace ∷ more)))
