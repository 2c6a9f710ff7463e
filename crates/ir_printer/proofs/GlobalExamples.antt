-- The examples of globals and declarations, computed.
use Rattle.std.proofs.Common.{◌≡◌, [], ◌∷◌, ◌++◌, List, ℕ, codes, map, refl}
use Rattle.std.specs.Fmt.{decimal, digits}
use Rattle.ir_types.specs.declared.ty.Ty.{Ty, Array, Struct}
use Rattle.ir_types.proofs.Induction as fold
use Rattle.ir_printer.specs.ExpressionPrinter.Printed.{printed_parts, struct_text, type_text}
use Rattle.ir_printer.specs.GlobalExamples.{GlobalsArePrinted}
use Rattle.ir_printer.proofs.Examples.{at_int, at_ptr}
use Rattle.ir_printer.proofs.Inits as init

at_array : (count : ℕ) (t : Ty) → printed_parts (Array count t) ≡ 91 ∷ decimal count ++ codes " x " ++ printed_parts t ++ 93 ∷ []
at_array = fold.at_array (List ℕ) type_text

at_struct : (ts : List Ty) → printed_parts (Struct ts) ≡ struct_text (map printed_parts ts)
at_struct = fold.at_struct (List ℕ) type_text

pub globals_are_printed : GlobalsArePrinted
unfolding digits
globals_are_printed = record {
  external = refl;
  string = simp (at_int, at_array, init.at_bytes) refl;
  array = simp (at_int, at_array, init.at_array, init.at_const) refl;
  struct = simp (at_int, at_ptr, at_struct, init.at_struct, init.at_const) refl;
  zero = simp (at_int, at_array, init.at_zero) refl;
  no_elements = simp (at_int, at_array, init.at_array) refl;
  no_fields = simp (at_struct, init.at_struct) refl;
  declared = simp (at_int, at_ptr) refl;
  nothing = refl;
  groups = simp (at_int, at_ptr) refl;
}
