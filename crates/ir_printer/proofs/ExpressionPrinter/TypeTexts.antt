-- A type's text is that of its parts.
use Rattle.std.proofs.Common.{◌≡◌, ℕ, List}
use Rattle.ir_types.specs.declared.ty.Ty.{Ty}
use Rattle.ir_types.proofs.Induction.{folded_is}
use Rattle.ir_printer.specs.ExpressionPrinter.Printed.{printed_parts, printed_type, type_text}

pub types_by_parts : (t : Ty) → printed_type t ≡ printed_parts t
types_by_parts = folded_is (List ℕ) type_text
