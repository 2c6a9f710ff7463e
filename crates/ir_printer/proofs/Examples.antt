-- The examples, computed.
use Rattle.std.proofs.Common.{◌≡◌, [], ◌∷◌, ◌++◌, List, ℕ, refl}
use Rattle.std.specs.Fmt.{decimal, digits}
use Rattle.ir_types.specs.declared.names.Name.{Name}
use Rattle.ir_types.specs.declared.ty.Ty.{Ty, Int, Ptr, Named}
use Rattle.ir_types.proofs.Induction as fold
use Rattle.ir_printer.specs.ExpressionPrinter.Printed.{printed_local, printed_parts, type_text}
use Rattle.ir_printer.specs.Examples.{ModulesArePrinted, module_with, three_types, three_types_text}
use Rattle.ir_printer.specs.Printed.{printed_module}

pub at_int : (width : ℕ) → printed_parts (Int width) ≡ 105 ∷ decimal width
at_int = fold.at_int (List ℕ) type_text

pub at_ptr : (t : Ty) → printed_parts (Ptr t) ≡ printed_parts t ++ 42 ∷ []
at_ptr = fold.at_ptr (List ℕ) type_text

at_named : (name : Name) → printed_parts (Named name) ≡ printed_local name
at_named = fold.at_named (List ℕ) type_text

three_types_are_printed : printed_module (module_with three_types []) ≡ three_types_text
unfolding digits
three_types_are_printed = simp (at_ptr, at_named) refl

pub modules_are_printed : ModulesArePrinted
unfolding digits
modules_are_printed = record {
  nothing = refl;
  one_block = refl;
  named_blocks = refl;
  numbered_blocks = refl;
  quoted_names = refl;
  functions = refl;
  types = three_types_are_printed;
  types_and_functions = simp (at_ptr, at_named) refl;
}
