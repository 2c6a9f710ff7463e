use Rattle.std.proofs.Common.{refl}
use Rattle.module_derivations.specs.FlatMarks.Examples.{MarksAreWritten}

pub marks_are_written : MarksAreWritten
marks_are_written = record {
  of_pair = refl;
  of_nested = refl;
  ahead = refl;
  inside = refl;
  skipped = refl;
  rule = refl;
  last = refl;
  first_token = refl;
  token = refl;
}
