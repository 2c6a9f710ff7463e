-- What the marks of a text's derivation mean.
use Rattle.std.specs.Prelude.{◌≡◌, ℕ, List, [], ◌∷◌, map}
use Rattle.module_derivations.specs.FlatMarks.Flat.{Mark}
use Rattle.module_derivations.specs.Ahead.{ahead, marks, seen}
use Rattle.module_derivations.specs.declared.start.TheConstants as start
use Rattle.module_grammar.specs.Sorts.{AnyType, Called, DeclaredParams, Expr, GlobalName, Holds, LocalName, Module, Sort}
use Rattle.module_grammar.specs.Symbols.{Symbol, kind_of}
use Rattle.module_grammar.specs.Texts.{IsWritten}
use Rattle.module_grammar.specs.Tokens.{token_grammar}
use Rattle.predictive.specs.Grammar.{Forest, Forms, yield}
use Rattle.predictive.specs.declared.symbol.Symbol.TheVariants.{Non}

-- what stands in front of the marks is what the symbols are written of, and nothing else is
pub record Means (x : Sort) (symbols : List Symbol) (marks : List Mark) : Type 0 where
  pub written : IsWritten x (seen x (ahead symbols marks)) symbols
  pub only : (tree : Holds x) → IsWritten x tree symbols → tree ≡ seen x (ahead symbols marks)

-- what is written down along each derivation from this nonterminal means this
abbrev pub AreMeant : ℕ → Sort → Type 0
AreMeant n x =
    (f : Forest) (symbols : List Symbol) → Forms token_grammar f (Non n ∷ []) → yield f ≡ map kind_of symbols → Means x symbols (marks f)

pub record DerivationsMean : Type 0 where
  pub modules : AreMeant start.MODULE Module
  pub types : AreMeant start.TYPE AnyType
  pub expressions : AreMeant start.EXPRESSION Expr
  pub locals : AreMeant start.LOCAL_NAME LocalName
  pub globals : AreMeant start.GLOBAL_NAME GlobalName
  pub called : AreMeant start.CALLED Called
  pub declared : AreMeant start.DECLARED_PARAMS DeclaredParams
