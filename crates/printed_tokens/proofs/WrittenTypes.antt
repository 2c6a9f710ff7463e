-- The whole text of a type.
use Rattle.std.proofs.Common.{◌≡◌, true, refl}
use Rattle.ir_core.specs.Ranges.{is_written}
use Rattle.ir_types.specs.declared.ty.Ty.{Ty}
use Rattle.module_grammar.specs.declared.words.Language.TheVariants.{Ir}
use Rattle.ir_printer.specs.ExpressionPrinter.Printed.{printed_type}
use Rattle.printed_tokens.specs.Laws.{IsWrittenType}
use Rattle.printed_tokens.proofs.Places.{symbols_from}
use Rattle.printed_tokens.proofs.ReadTexts.{Stops, whole}
use Rattle.printed_tokens.proofs.Types.{AreNamesInRange, type}

pub written_type : (t : Ty) → is_written t ≡ true → AreNamesInRange t → IsWrittenType (printed_type t) t
written_type t written ranged =
    let p = type Ir t written ranged in
    let symbols = symbols_from Ir (printed_type t) p.tokens (whole Stops (printed_type t) p.tokens refl p.reads) in
    let named = p.is _ symbols.2 in
    record { tokens = symbols.0; cut = symbols.1; tree = named.tree; written = named.are; names = named.names.0 }
