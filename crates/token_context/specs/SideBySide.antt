-- Where something may have to stand between parentheses, by the kinds of the tokens next to them.
use Rattle.std.specs.Prelude.{◌≡◌, ◌⊎◌, ℕ, List, ◌∷◌, ◌++◌}
use Rattle.module_grammar.specs.Symbols.{close_paren, kind_of, open_paren, unnamed_addr, void}
use Rattle.token_context.specs.Readings.{debug_kind, global_kind}

-- tokens of these kinds stand somewhere side by side
pub record AreSideBySide (first second : ℕ) (kinds : List ℕ) : Type 0 where
  pub before : List ℕ
  pub behind : List ℕ
  pub same : kinds ≡ before ++ (first ∷ second ∷ behind)

-- a parenthesis opens somewhere behind a token of the one kind, and one closes somewhere before a token of the other
abbrev pub HaveParens : ℕ → ℕ → List ℕ → Type 0
HaveParens opener follower kinds = AreSideBySide opener (kind_of open_paren) kinds × AreSideBySide (kind_of close_paren) follower kinds

-- A parenthesis opens somewhere behind `void` and one closes somewhere before the name of a function, or one opens somewhere behind a name of
-- debugging and one closes somewhere before `unnamed_addr`: else no token is another where it stands than by itself, and no brackets have to be
-- matched.
abbrev pub DoParensMatter : List ℕ → Type 0
DoParensMatter kinds = HaveParens (kind_of void) global_kind kinds ⊎ HaveParens debug_kind (kind_of unnamed_addr) kinds
