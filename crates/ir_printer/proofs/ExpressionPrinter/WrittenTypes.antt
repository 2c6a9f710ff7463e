-- The examples, by the equations of the texts of types.
use Rattle.std.proofs.Common.{◌≡◌, [], ◌∷◌, ◌++◌, ℕ, List, codes, map, refl}
use Rattle.std.specs.Fmt.{decimal, digits}
use Rattle.ir_types.specs.declared.names.Name.{Name}
use Rattle.ir_types.specs.declared.ty.Ty.{Ty, Int, Ptr, Array, Struct, Named}
use Rattle.ir_types.proofs.Induction as fold
use Rattle.ir_printer.specs.ExpressionPrinter.Examples.{TypesAreWritten}
use Rattle.ir_printer.specs.ExpressionPrinter.Printed.{printed_local, printed_parts, struct_text, type_text}

pub at_int : (width : ℕ) → printed_parts (Int width) ≡ 105 ∷ decimal width
at_int = fold.at_int (List ℕ) type_text

pub at_ptr : (t : Ty) → printed_parts (Ptr t) ≡ printed_parts t ++ 42 ∷ []
at_ptr = fold.at_ptr (List ℕ) type_text

pub at_array : (count : ℕ) (t : Ty) → printed_parts (Array count t) ≡ 91 ∷ decimal count ++ codes " x " ++ printed_parts t ++ 93 ∷ []
at_array = fold.at_array (List ℕ) type_text

at_struct : (ts : List Ty) → printed_parts (Struct ts) ≡ struct_text (map printed_parts ts)
at_struct = fold.at_struct (List ℕ) type_text

at_named : (name : Name) → printed_parts (Named name) ≡ printed_local name
at_named = fold.at_named (List ℕ) type_text

pub types_are_written : TypesAreWritten
unfolding digits
types_are_written = record {
  integer = refl;
  void = refl;
  pointer = simp (at_int, at_ptr) refl;
  array = simp (at_int, at_array) refl;
  no_fields = simp (at_struct) refl;
  one_field = simp (at_int, at_struct) refl;
  two_fields = simp (at_int, at_ptr, at_struct) refl;
  nested = simp (at_int, at_array, at_struct) refl;
  named = refl;
  numbered = simp (at_named, at_ptr) refl;
  quoted = refl;
}
