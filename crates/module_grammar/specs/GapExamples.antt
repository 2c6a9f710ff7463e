-- Examples of text that isn't kept.
use Rattle.std.specs.Prelude.{◌≡◌, ℕ, ◌+◌, nat_eq, cond, List, [], ◌∷◌}
use Rattle.module_grammar.specs.declared.attributes.BangText.TheVariants.{Node}
use Rattle.module_grammar.specs.declared.attributes.MetaText.{MetaText}
use Rattle.module_grammar.specs.declared.attributes.MetaText.TheVariants.{Bang as BangMeta}
use Rattle.module_grammar.specs.AtPlaces.{number_at, width_at}
use Rattle.module_grammar.specs.Balanced.{IsBalanced}
use Rattle.module_grammar.specs.Sorts.{Meta}
use Rattle.module_grammar.specs.Symbols.{Symbol, Numeral, Width, Brace, bang, close_brace, close_paren, foreign, kind_of, open_paren}
use Rattle.module_grammar.specs.Texts.{IsWritten}

-- `!{`, something that isn't kept, and `}`
abbrev pub node : MetaText
node = BangMeta (Node 1)

abbrev pub between_braces : List Symbol → List Symbol
between_braces tokens = bang ∷ Brace 1 ∷ tokens

-- how many of the tokens are of the kind
abbrev pub count : ℕ → List Symbol → ℕ
count k [] = 0
count k (s ∷ more) = cond (nat_eq (kind_of s) k) 1 0 + count k more

pub record TextsAreLeftOut : Type 0 where
  -- `!{}`
  pub none : IsWritten Meta node (between_braces (close_brace ∷ []))
  -- `!{i8 7}`
  pub some : IsWritten Meta node (between_braces (Width (width_at 8 2 4) ∷ Numeral (number_at 7 5 6) ∷ close_brace ∷ []))
  -- `!{float({})}`
  pub nested : IsWritten Meta node (between_braces (foreign ∷ open_paren ∷ Brace 8 ∷ close_brace ∷ close_paren ∷ close_brace ∷ []))
  -- as many ( as ), so no `(` alone
  pub pairs : (tokens : List Symbol) → IsBalanced tokens → count (kind_of open_paren) tokens ≡ count (kind_of close_paren) tokens
  pub unpaired : IsBalanced (open_paren ∷ []) → ⊥
