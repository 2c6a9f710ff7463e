-- The rules of a parser's grammar for text of which nothing is kept.
use Rattle.std.specs.Prelude.{ℕ, zero, suc, List, [], ◌∷◌, filter, map}
use Rattle.module_grammar.specs.Balanced.{is_plain_kind}
use Rattle.module_grammar.specs.Symbols.{Symbol, Bracket, Brace, kind_of, open_paren, close_paren, close_bracket, close_brace, balanced}
use Rattle.predictive.specs.Listed.{Rule}
use Rattle.predictive.specs.declared.symbol.Symbol.{Symbol as Sign}
use Rattle.predictive.specs.declared.symbol.Symbol.TheVariants.{Kind, Non}

-- the numbers below n, the last one first
abbrev pub numbers_below : ℕ → List ℕ
numbers_below zero = []
numbers_below (suc n) = n ∷ numbers_below n

abbrev pub plain_kinds : List ℕ
plain_kinds = filter is_plain_kind (numbers_below (kind_of balanced))

abbrev pub row : Sign
row = Non 92

abbrev pub any_token : Sign
any_token = Non 93

abbrev pub between : Symbol → Symbol → Rule
between before behind = record { left = 92; right = Kind (kind_of before) ∷ row ∷ Kind (kind_of behind) ∷ row ∷ [] }

abbrev pub a_token : ℕ → Rule
a_token k = record { left = 93; right = Kind k ∷ [] }

-- row = | any row | ( row ) row | [ row ] row | { row } row; any = each kind that is plain
abbrev pub balanced_rules : List Rule
balanced_rules =
    record { left = 92; right = [] }
    ∷ record { left = 92; right = any_token ∷ row ∷ [] }
    ∷ between open_paren close_paren
    ∷ between (Bracket 0) close_bracket
    ∷ between (Brace 0) close_brace
    ∷ map a_token plain_kinds
