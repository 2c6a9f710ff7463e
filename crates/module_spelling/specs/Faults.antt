-- What is first at fault in a text of the whole grammar, once it is cut into tokens: the grammar and the limits on depths and lines, each at its token; then
-- names and types, and the limit on blocks, each at its place.
use Rattle.std.specs.Prelude.{◌≡◌, ◌≤◌, ◌<◌, ◌⊎◌, ℕ, ◌+◌, false, List, [], ◌∷◌, ◌++◌, length, map, reverse, slice_get, take, Some}
use Rattle.std.specs.List.{Contains}
use Rattle.ir_core.specs.declared.limits.Limit.{Limit}
use Rattle.ir_core.specs.declared.limits.Limit.TheVariants as limit
use Rattle.ir_types.specs.declared.names.Name.{Name}
use Rattle.module_grammar.specs.Sorts.{Sort, Holds, Called, DeclaredParams, Module as ModuleSort}
use Rattle.module_grammar.specs.Symbols.{Symbol, Debug, Global, kind_of, unnamed_addr, void}
use Rattle.module_grammar.specs.Texts.{IsWritten}
use Rattle.module_grammar.specs.Tokens.{token_grammar}
use Rattle.module_grammar.specs.declared.functions.DeclaredText.{DeclaredText}
use Rattle.module_grammar.specs.declared.items.ModuleText.{ModuleText}
use Rattle.module_grammar.specs.declared.places.Placed.{Placed}
use Rattle.module_grammar.specs.declared.types.CalledText.{CalledText}
use Rattle.name_claims.specs.declared.claims.Fault.{Fault}
use Rattle.name_claims.specs.Faults.{before}
use Rattle.named_modules.specs.Built.{module_of}
use Rattle.named_modules.specs.Faults.{faults_of, heads_of}
use Rattle.predictive.specs.Grammar.{Forest, Forms, IsFirstFault, yield}
use Rattle.predictive.specs.declared.symbol.Symbol.TheVariants.{Non}
use Rattle.module_spelling.specs.Blocks.{large_places}
use Rattle.module_spelling.specs.Context.{StandsBehind, called_number, declared_number}
use Rattle.module_spelling.specs.Opened.{IsWithin, Passes, PassesFirst}
use Rattle.module_spelling.specs.Spells.{StatesParams, StatesTypes}

-- ---- the grammar and its limits

-- Of tokens of these kinds, read as the nonterminal of this number, the one of this index is the first to pass a limit, and up to it all is expected.
abbrev pub PassesLimit : ℕ → List ℕ → ℕ → Limit → Type 0
PassesLimit n kinds k l =
    (k < length kinds) × ((more : List ℕ) × (f : Forest) × Forms token_grammar f (Non n ∷ []) × (yield f ≡ take (k + 1) kinds ++ more) × PassesFirst f k l)

-- The token of this index is the first that isn't expected, and no limit is passed before it.
abbrev pub IsStuck : ℕ → List ℕ → ℕ → Type 0
IsStuck n kinds k =
    IsFirstFault token_grammar (Non n ∷ []) kinds k × ((j : ℕ) (l : Limit) → j < k → PassesLimit n kinds j l → ⊥)

-- the number of modules in the grammar
abbrev pub module_number : ℕ
module_number = 0

-- what stands between the parentheses is written of a thing of this sort, and is too deep
pub record IsTooDeep (s : Sort) (n : ℕ) (opener : Symbol) (before : List Symbol) : Type 0 where
  pub inside : List Symbol
  pub stands : StandsBehind opener inside before
  pub tree : Holds s
  pub written : IsWritten s tree inside
  pub derivation : Forest
  pub formed : Forms token_grammar derivation (Non n ∷ [])
  pub same : yield derivation ≡ map kind_of inside
  pub index : ℕ
  pub passes : Passes derivation index limit.Depth

-- A token that is this by itself is none of the grammar behind these, the last one first, for this reason alone.
abbrev pub IsDeepBehind : List Symbol → Symbol → Type 0
IsDeepBehind before (Global x) = IsTooDeep Called called_number void before
IsDeepBehind before s = (kind_of s ≡ kind_of unnamed_addr) × ((x : Placed Name) × IsTooDeep DeclaredParams declared_number (Debug x) before)

abbrev pub IsDeepAt : List Symbol → ℕ → Type 0
IsDeepAt own k = (s : Symbol) × (slice_get own k ≡ Some s) × IsDeepBehind (reverse (take k own)) s

-- The tokens that are these symbols by themselves, and those of the grammar in their places, pass the limit, before anything isn't expected.
abbrev pub HasLimit : List Symbol → List Symbol → Limit → Type 0
HasLimit own symbols l =
    ((k : ℕ) × PassesLimit module_number (map kind_of symbols) k l)
    ⊎ ((l ≡ limit.Depth) × ((k : ℕ) × IsStuck module_number (map kind_of symbols) k × IsDeepAt own k))

-- The token of this index isn't expected, and no limit is passed up to it.
abbrev pub IsGrammarFault : List Symbol → List Symbol → ℕ → Type 0
IsGrammarFault own symbols k = IsStuck module_number (map kind_of symbols) k × (IsDeepAt own k → ⊥)

-- ---- names and types

-- it is one of the faults, and none comes before it
abbrev pub IsFirstOf : List Fault → Fault → Type 0
IsFirstOf faults f = Contains faults f × ((g : Fault) → Contains faults g → before g f ≡ false)

-- The symbols are written of this tree within the limits, and before names that it doesn't keep parentheses of stands this.
pub record IsRead (symbols : List Symbol) : Type 0 where
  pub tree : ModuleText
  pub written : IsWritten ModuleSort tree symbols
  pub derivation : Forest
  pub formed : Forms token_grammar derivation (Non 0 ∷ [])
  pub yields : yield derivation ≡ map kind_of symbols
  pub within : IsWithin derivation
  pub stated : Placed Name → CalledText
  pub params : Placed Name → DeclaredText
  pub types : (x : Placed Name) (c : CalledText) → StatesTypes symbols x c → stated x ≡ c
  pub declared : (x : Placed Name) (c : DeclaredText) → StatesParams symbols x c → params x ≡ c

abbrev pub faults_in : {symbols : List Symbol} → IsRead symbols → List Fault
faults_in r = faults_of r.stated r.params r.tree

abbrev pub large_in : {symbols : List Symbol} → IsRead symbols → List ℕ
large_in r = large_places (heads_of (module_of r.params r.tree)) r.tree

-- the first fault of names and types, before which, or at whose place, no block is too large; at one place the limit comes last
abbrev pub HasNameFault : List Symbol → Fault → Type 0
HasNameFault symbols f =
    (r : IsRead symbols) × IsFirstOf (faults_in r) f × ((place : ℕ) → Contains (large_in r) place → f.start ≤ place)

-- a block is too large before all faults of names and types
abbrev pub HasLargeBlock : List Symbol → Type 0
HasLargeBlock symbols =
    (r : IsRead symbols) × ((place : ℕ) × Contains (large_in r) place × ((f : Fault) → Contains (faults_in r) f → place < f.start))
