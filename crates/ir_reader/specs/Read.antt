-- Words of private functions: the tree of a text, with what stands around its names.
use Rattle.std.specs.Prelude.{◌≡◌, ℕ, List, ◌∷◌, ◌++◌}
use Rattle.ir_lexer.specs.Cut.{Placed as PlacedToken}
use Rattle.ir_types.specs.declared.names.Name.{Name}
use Rattle.module_grammar.specs.Balanced.{IsBalanced}
use Rattle.module_grammar.specs.Sorts.{Module}
use Rattle.module_grammar.specs.Symbols.{Debug, Global, Symbol, close_paren, open_paren, unnamed_addr, void}
use Rattle.module_grammar.specs.declared.functions.DeclaredText.{DeclaredText}
use Rattle.module_grammar.specs.declared.items.ModuleText.{ModuleText}
use Rattle.module_grammar.specs.declared.places.Placed.{Placed}
use Rattle.module_grammar.specs.declared.types.CalledText.{CalledText}
use Rattle.module_spelling.specs.Spells.{StatesParams, StatesTypes}
use Rattle.module_texts.specs.Texts.{HasSymbols}
use Rattle.derivation_writer.specs.ReadMarks.Reading.{IsReadAs}

-- what is told of names is what stands around them
pub record Surround (symbols : List Symbol) (stated : Placed Name → CalledText) (params : Placed Name → DeclaredText) : Type 0 where
  pub types : (x : Placed Name) (c : CalledText) → StatesTypes symbols x c → stated x ≡ c
  pub declared : (x : Placed Name) (c : DeclaredText) → StatesParams symbols x c → params x ≡ c
  pub stated_so :
      (x : Placed Name) (before inside behind : List Symbol)
      → symbols ≡ before ++ (void ∷ open_paren ∷ (inside ++ (close_paren ∷ Global x ∷ behind))) → IsBalanced inside → StatesTypes symbols x (stated x)
  pub declared_so :
      (x : Placed Name) (before inside behind : List Symbol)
      → symbols ≡ before ++ (Debug x ∷ open_paren ∷ (inside ++ (close_paren ∷ unnamed_addr ∷ behind))) → IsBalanced inside → StatesParams symbols x (params x)

-- the tokens of the text stand for symbols that are written of the tree, within the limits
pub record IsTreeOf (bytes : List ℕ) (tree : ModuleText) (stated : Placed Name → CalledText) (params : Placed Name → DeclaredText) : Type 0 where
  pub tokens : List PlacedToken
  pub symbols : List Symbol
  pub has : HasSymbols bytes tokens symbols
  pub read : IsReadAs Module 0 symbols tree
  pub around : Surround symbols stated params
