-- The law of printed types.
use Rattle.std.specs.Prelude.{◌≡◌, ℕ, true, List, map, Ok}
use Rattle.std.specs.List.{AllByRecursion}
use Rattle.ir_core.specs.Ranges.{IsNameInRange, is_written}
use Rattle.ir_core.specs.TypeNames.{names_in_type}
use Rattle.ir_lexer.specs.Cut.{Placed as PlacedToken, cut}
use Rattle.ir_types.specs.declared.ty.Ty.{Ty}
use Rattle.module_grammar.specs.declared.types.TypeText.{TypeText}
use Rattle.module_grammar.specs.declared.words.Language.TheVariants.{Ir}
use Rattle.module_grammar.specs.Spelled.{symbol}
use Rattle.module_grammar.specs.Types.{ty}
use Rattle.named_modules.specs.Types.{type_of}
use Rattle.ir_printer.specs.ExpressionPrinter.Printed.{printed_type}

-- The text is cut into tokens that are written of a tree which names the type: `[4 x i8*]` of the array of 4 pointers to i8.
pub record IsWrittenType (bytes : List ℕ) (t : Ty) : Type 0 where
  pub tokens : List PlacedToken
  pub cut : cut 0 0 bytes ≡ Ok tokens
  pub tree : TypeText
  pub written : map (symbol Ir bytes) tokens ≡ ty tree
  pub names : type_of tree ≡ t

-- A type that can be written, and whose names can, is printed as a text that is written of it.
abbrev pub PrintedTypesAreWritten : Type 0
PrintedTypesAreWritten = (t : Ty) → is_written t ≡ true → AllByRecursion IsNameInRange (names_in_type t) → IsWrittenType (printed_type t) t
