-- What a text of the whole grammar spells, however long the text is.
use Rattle.std.specs.Prelude.{◌≡◌, ℕ, List, [], ◌∷◌, ◌++◌, map, Ok}
use Rattle.ir_core.specs.declared.modules.Module.{Module}
use Rattle.ir_lexer.specs.Cut.{Placed as PlacedToken, cut}
use Rattle.ir_types.specs.declared.names.Name.{Name}
use Rattle.module_grammar.specs.Sorts.{Called, DeclaredParams, Module as ModuleSort}
use Rattle.module_grammar.specs.Spelled.{symbol}
use Rattle.module_grammar.specs.Symbols.{Debug, Global, Symbol, close_paren, kind_of, open_paren, unnamed_addr, void}
use Rattle.module_grammar.specs.Texts.{IsWritten}
use Rattle.module_grammar.specs.Tokens.{token_grammar}
use Rattle.module_grammar.specs.declared.functions.DeclaredText.{DeclaredText}
use Rattle.module_grammar.specs.declared.items.ModuleText.{ModuleText}
use Rattle.module_grammar.specs.declared.places.Placed.{Placed}
use Rattle.module_grammar.specs.declared.types.CalledText.{CalledText}
use Rattle.module_grammar.specs.declared.words.Language.TheVariants.{Ir}
use Rattle.named_modules.specs.Faults.{heads_of}
use Rattle.named_modules.specs.Modules.{NamesModule}
use Rattle.predictive.specs.Grammar.{Forest, Forms, yield}
use Rattle.predictive.specs.declared.symbol.Symbol.TheVariants.{Non}
use Rattle.module_spelling.specs.Blocks.{large_places}
use Rattle.module_spelling.specs.Context.{StandFor}
use Rattle.module_spelling.specs.Opened.{IsWithin}

-- the types between the parentheses behind `void` and before a name; no parenthesis stands in types
pub record StatesTypes (symbols : List Symbol) (x : Placed Name) (c : CalledText) : Type 0 where
  pub before : List Symbol
  pub types : List Symbol
  pub behind : List Symbol
  pub same : symbols ≡ before ++ (void ∷ open_paren ∷ (types ++ (close_paren ∷ Global x ∷ behind)))
  pub written : IsWritten Called c types

-- the parameters between the parentheses behind a name of debugging and before `unnamed_addr`
pub record StatesParams (symbols : List Symbol) (x : Placed Name) (c : DeclaredText) : Type 0 where
  pub before : List Symbol
  pub params : List Symbol
  pub behind : List Symbol
  pub same : symbols ≡ before ++ (Debug x ∷ open_paren ∷ (params ++ (close_paren ∷ unnamed_addr ∷ behind)))
  pub written : IsWritten DeclaredParams c params

-- The text is cut into tokens; what they stand for is written of a tree, within the limits on depths and lines; the tree names this module,
-- and wants no more memory at once than the limit allows.
pub record Spells (bytes : List ℕ) (m : Module) : Type 0 where
  pub tokens : List PlacedToken
  pub cut : cut 0 0 bytes ≡ Ok tokens
  pub symbols : List Symbol
  pub stand : StandFor (map (symbol Ir bytes) tokens) symbols
  pub tree : ModuleText
  pub written : IsWritten ModuleSort tree symbols
  pub derivation : Forest
  pub formed : Forms token_grammar derivation (Non 0 ∷ [])
  pub yields : yield derivation ≡ map kind_of symbols
  pub within : IsWithin derivation
  pub names : NamesModule (StatesTypes symbols) (StatesParams symbols) tree m
  pub small : large_places (heads_of m) tree ≡ []
