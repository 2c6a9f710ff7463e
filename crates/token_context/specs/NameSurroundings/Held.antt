-- Words of private functions: what is held of the names of a text, up to a token.
use Rattle.std.specs.Prelude.{◌≡◌, ◌<◌, ℕ, List, [], Option, Some, unwrap_or, false}
use Rattle.ir_types.specs.declared.names.Name.{Name}
use Rattle.module_grammar.specs.Sorts.{Called, DeclaredParams}
use Rattle.module_grammar.specs.Symbols.{Debug, Global, Symbol, unnamed_addr, void}
use Rattle.module_grammar.specs.Texts.{IsWritten}
use Rattle.module_grammar.specs.declared.functions.DeclaredText.{DeclaredText}
use Rattle.module_grammar.specs.declared.places.Placed.{Placed}
use Rattle.module_grammar.specs.declared.types.CalledText.{CalledText}
use Rattle.token_context.specs.NameSurroundings.Between.{Between, end_of}

-- the types that stand before a name at this index, if any do
abbrev pub AreTypesBefore : List Symbol → ℕ → Option CalledText → Type 0
AreTypesBefore symbols place told =
    (x : Placed Name) (inside : List Symbol) (at : ℕ) → Between void (Global x) symbols inside at → end_of at inside ≡ place
    → (c : CalledText) × (told ≡ Some c) × IsWritten Called c inside

-- the parameters that end before this index, with the name that they stand behind, if there are any
pub record AreParamsBefore (symbols : List Symbol) (place : ℕ) (told : Option (ℕ × DeclaredText)) : Type 0 where
  pub complete :
      (x : Placed Name) (inside : List Symbol) (at : ℕ) → Between (Debug x) unnamed_addr symbols inside at → end_of at inside ≡ place
      → (c : DeclaredText) × (told ≡ Some (x.start, c)) × IsWritten DeclaredParams c inside
  pub sound :
      (start : ℕ) (c : DeclaredText) → told ≡ Some (start, c)
      → (x : Placed Name) × (inside : List Symbol) × (at : ℕ) × Between (Debug x) unnamed_addr symbols inside at × (start ≡ x.start)
      × IsWritten DeclaredParams c inside

-- what stands before each name up to this index is told by where the name begins
abbrev pub AreTypesTold : List Symbol → ℕ → (ℕ → Option CalledText) → Type 0
AreTypesTold symbols place told =
    (x : Placed Name) (inside : List Symbol) (at : ℕ) → Between void (Global x) symbols inside at → end_of at inside < place
    → (c : CalledText) × (told x.start ≡ Some c) × IsWritten Called c inside

-- and what stands behind each name of debugging
abbrev pub AreParamsTold : List Symbol → ℕ → (ℕ → Option DeclaredText) → Type 0
AreParamsTold symbols place told =
    (x : Placed Name) (inside : List Symbol) (at : ℕ) → Between (Debug x) unnamed_addr symbols inside at → end_of at inside < place
    → (c : DeclaredText) × (told x.start ≡ Some c) × IsWritten DeclaredParams c inside

abbrev pub no_types : CalledText
no_types = record { types = []; is_open = false }

abbrev pub no_params : DeclaredText
no_params = record { params = []; is_open = false }

abbrev pub types_or_none : Option CalledText → CalledText
types_or_none told = unwrap_or told no_types

abbrev pub params_or_none : Option DeclaredText → DeclaredText
params_or_none told = unwrap_or told no_params
