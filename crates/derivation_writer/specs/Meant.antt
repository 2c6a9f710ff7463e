-- What is written down of a text means the one tree that the text is written of.
use Rattle.std.specs.Prelude.{ℕ, List, map, Ok}
use Rattle.derivation_writer.specs.Writing.{IsDerived}
use Rattle.module_derivations.specs.FlatMarks.Flat.{mark_of}
use Rattle.module_derivations.specs.Derivations.{Means}
use Rattle.module_derivations.specs.declared.start.TheConstants as start
use Rattle.module_grammar.specs.Sorts.{AnyType, Called, DeclaredParams, Expr, GlobalName, LocalName, Module, Sort}
use Rattle.module_grammar.specs.Symbols.{Symbol, kind_of}

abbrev pub AreMeant : ℕ → Sort → Type 0
AreMeant n x = (symbols : List Symbol) (numbers : List ℕ) → IsDerived n (map kind_of symbols) (Ok numbers) → Means x symbols (map mark_of numbers)

pub record NumbersMean : Type 0 where
  pub modules : AreMeant start.MODULE Module
  pub types : AreMeant start.TYPE AnyType
  pub expressions : AreMeant start.EXPRESSION Expr
  pub locals : AreMeant start.LOCAL_NAME LocalName
  pub globals : AreMeant start.GLOBAL_NAME GlobalName
  pub called : AreMeant start.CALLED Called
  pub declared : AreMeant start.DECLARED_PARAMS DeclaredParams
