-- The examples of lines of memory and calls, computed.
use Rattle.std.proofs.Common.{refl}
use Rattle.std.specs.Fmt.{digits}
use Rattle.ir_printer.specs.MemoryExamples.{LinesArePrinted}
use Rattle.ir_printer.proofs.Examples.{at_int, at_ptr}

pub lines_are_printed : LinesArePrinted
unfolding digits
lines_are_printed = record {
  alloca = refl;
  counted = refl;
  store = simp (at_int, at_ptr) refl;
  aligned = simp (at_int, at_ptr) refl;
  call = refl;
  nothing = refl;
  further = simp (at_int, at_ptr) refl;
  no_params = refl;
  other = refl;
  head = refl;
}
