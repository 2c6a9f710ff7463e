-- What the tokens of a module say of its tree: how many lines it has, and what stands around names of which the tree doesn't keep it.
use Rattle.std.specs.Prelude.{◌≡◌, ◌↔◌, List, [], ◌∷◌, ◌++◌, map}
use Rattle.std.specs.List.{Contains}
use Rattle.ir_core.specs.declared.modules.Module.{Module}
use Rattle.ir_types.specs.declared.names.Name.{Name}
use Rattle.module_grammar.specs.Balanced.{IsBalanced}
use Rattle.module_grammar.specs.Sorts.{Module as ModuleSort}
use Rattle.module_grammar.specs.Symbols.{Debug, Global, Symbol, close_paren, kind_of, open_paren, unnamed_addr, void}
use Rattle.module_grammar.specs.Texts.{IsWritten}
use Rattle.module_grammar.specs.Tokens.{token_grammar}
use Rattle.module_grammar.specs.declared.functions.DeclaredText.{DeclaredText}
use Rattle.module_grammar.specs.declared.items.ModuleText.{ModuleText}
use Rattle.module_grammar.specs.declared.places.Placed.{Placed}
use Rattle.module_grammar.specs.declared.types.CalledText.{CalledText}
use Rattle.module_spelling.specs.Opened.{IsWithin}
use Rattle.module_spelling.specs.Spells.{StatesParams, StatesTypes}
use Rattle.named_modules.specs.Built.{module_of}
use Rattle.named_modules.specs.Laws.{AreShort, Is}
use Rattle.named_modules.specs.Modules.{NamesModule}
use Rattle.predictive.specs.Grammar.{Forest, Forms, yield}
use Rattle.predictive.specs.declared.symbol.Symbol.TheVariants.{Non}
use Rattle.module_spelling.specs.Around.{called_names, declared_names}

-- a module that is written within the limit on lines is built of functions within it
abbrev pub WithinTreesAreShort : Type 0
WithinTreesAreShort =
    (params : Placed Name → DeclaredText) (tree : ModuleText) (symbols : List Symbol) (derivation : Forest)
    → IsWritten ModuleSort tree symbols → Forms token_grammar derivation (Non 0 ∷ []) → yield derivation ≡ map kind_of symbols → IsWithin derivation
    → AreShort (module_of params tree)

-- before a name that is called behind stated types, these stand between parentheses behind `void`
abbrev pub CalledNamesStand : Type 0
CalledNamesStand =
    (tree : ModuleText) (symbols : List Symbol) (x : Placed Name) → IsWritten ModuleSort tree symbols → Contains (called_names tree) x
    → (before : List Symbol) × (inside : List Symbol) × (behind : List Symbol)
    × (symbols ≡ before ++ (void ∷ open_paren ∷ (inside ++ (close_paren ∷ Global x ∷ behind)))) × IsBalanced inside

-- behind a name of debugging that is declared and kept, its parameters stand between parentheses
abbrev pub DeclaredNamesStand : Type 0
DeclaredNamesStand =
    (tree : ModuleText) (symbols : List Symbol) (x : Placed Name) → IsWritten ModuleSort tree symbols → Contains (declared_names tree) x
    → (before : List Symbol) × (inside : List Symbol) × (behind : List Symbol)
    × (symbols ≡ before ++ (Debug x ∷ open_paren ∷ (inside ++ (close_paren ∷ unnamed_addr ∷ behind)))) × IsBalanced inside

-- What a tree names rests on what stands around these names alone: it names the same modules where functions say what stands there.
abbrev pub NamesRestOnTheseAlone : Type 0
NamesRestOnTheseAlone =
    (stated : Placed Name → CalledText) (params : Placed Name → DeclaredText) (symbols : List Symbol) (tree : ModuleText) (m : Module)
    → ((x : Placed Name) (c : CalledText) → Contains (called_names tree) x → StatesTypes symbols x c ↔ (c ≡ stated x))
    → ((x : Placed Name) (c : DeclaredText) → Contains (declared_names tree) x → StatesParams symbols x c ↔ (c ≡ params x))
    → NamesModule (StatesTypes symbols) (StatesParams symbols) tree m ↔ NamesModule (Is stated) (Is params) tree m
