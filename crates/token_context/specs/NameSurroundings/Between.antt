-- Words of private functions: what stands between two parentheses, and which pair of them is looked at.
use Rattle.std.specs.Prelude.{◌≡◌, ℕ, ◌+◌, cond, ◌&&◌, nat_eq, List, ◌∷◌, ◌++◌, get_or, length, map, Option, None, Some}
use Rattle.ir_lexer.specs.Cut.{AreInOrder}
use Rattle.ir_lexer.specs.declared.token.Token.{Token}
use Rattle.module_grammar.specs.Balanced.{IsBalanced}
use Rattle.module_grammar.specs.Spelled.{symbol_in}
use Rattle.module_grammar.specs.Symbols.{Symbol, close_paren, kind_of, open_paren}
use Rattle.module_grammar.specs.declared.words.Language.TheVariants.{Ir}
use Rattle.module_spelling.specs.Context.{AreKinds, StandFor, all_seen}
use Rattle.token_context.specs.declared.brackets.Opened.{Opened}

-- what the tokens of a module are where they stand, by their kinds
abbrev pub seen : List ℕ → List Token → List ℕ → List Symbol
seen text tokens kinds = all_seen (map (symbol_in Ir text) tokens) kinds

abbrev pub start_of : Token → ℕ
start_of t = t.start

-- where the token of this index begins
abbrev pub start_at : List Token → ℕ → ℕ
start_at tokens i = get_or (map start_of tokens) i 0

-- The tokens of a text are in order, and of these kinds where they stand.
pub record IsText (text : List ℕ) (tokens : List Token) (kinds : List ℕ) : Type 0 where
  pub order : AreInOrder 0 (length text) tokens
  pub are_kinds : AreKinds (map (symbol_in Ir text) tokens) kinds
  pub stand : StandFor (map (symbol_in Ir text) tokens) (seen text tokens kinds)

-- The second stands behind parentheses, these stand between them, and the first stands before them, at this index.
pub record Between (opener follower : Symbol) (symbols inside : List Symbol) (at : ℕ) : Type 0 where
  pub before : List Symbol
  pub behind : List Symbol
  pub same : symbols ≡ before ++ (opener ∷ open_paren ∷ (inside ++ (close_paren ∷ follower ∷ behind)))
  pub index : at ≡ length before
  pub balanced : IsBalanced inside

-- the index of what stands behind the parentheses
abbrev pub end_of : ℕ → List Symbol → ℕ
end_of at inside = at + length inside + 3

-- the pair, if it is of parentheses behind a token of the one kind, and this is the other kind
abbrev pub pair_if : ℕ → ℕ → ℕ → Option Opened → Option Opened
pair_if opener follower kind None = None
pair_if opener follower kind (Some pair) =
    cond (nat_eq kind follower && (nat_eq pair.kind (kind_of open_paren) && nat_eq pair.behind opener)) (Some pair) None
