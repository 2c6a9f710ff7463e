-- The examples of constants and of memory, by the equations of their texts.
use Rattle.std.proofs.Common.{◌≡◌, ℕ, List, refl, ap}
use Rattle.std.specs.Fmt.{digits}
use Rattle.ir_types.specs.declared.names.Name.{Name}
use Rattle.ir_types.specs.declared.names.Sigil.TheVariants.{Global}
use Rattle.ir_types.specs.declared.ty.Ty.{Ty}
use Rattle.ir_core.specs.declared.operands.Const.{Number}
use Rattle.ir_core.specs.declared.operands.Const.TheVariants as constant
use Rattle.ir_core.proofs.Constants as fold
use Rattle.ir_printer.specs.ExpressionPrinter.Examples.{ConstantsAreWritten, MemoryIsWritten}
use Rattle.ir_printer.specs.ExpressionPrinter.Printed.{constant_parts, constant_text, number_text, printed_name}
use Rattle.ir_printer.proofs.ExpressionPrinter.ConstantTexts.{at_cast, at_element}
use Rattle.ir_printer.proofs.ExpressionPrinter.WrittenTypes.{at_int, at_ptr, at_array}

at_number : (t : Ty) (n : ℕ) → constant_parts (Number n) t ≡ number_text t n
at_number t n = ap (λ (f : Ty → List ℕ). f t) (fold.at_number (Ty → List ℕ) constant_text n)

at_global : (t : Ty) (x : Name) → constant_parts (constant.Global x) t ≡ printed_name Global x
at_global t x = ap (λ (f : Ty → List ℕ). f t) (fold.at_global (Ty → List ℕ) constant_text x)

pub constants_are_written : ConstantsAreWritten
unfolding digits
constants_are_written = record {
  number = refl;
  null = refl;
  global = refl;
  element = simp (at_number, at_global, at_element, at_int, at_ptr, at_array) refl;
  cast = simp (at_global, at_cast, at_int, at_ptr) refl;
  nested = simp (at_number, at_global, at_element, at_cast, at_int, at_ptr) refl;
}

pub memory_is_written : MemoryIsWritten
unfolding digits
memory_is_written = record {
  base = simp (at_int, at_ptr) refl;
  element = simp (at_int, at_ptr) refl;
  load = simp (at_int, at_ptr) refl;
  aligned = simp (at_int, at_ptr) refl;
}
