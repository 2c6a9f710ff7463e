-- Words of private functions.
use Rattle.std.specs.Prelude.{ℕ, List, ◌++◌, codes}
use Rattle.ir_types.specs.declared.names.Sigil.TheVariants as sigil
use Rattle.ir_printer.specs.ExpressionPrinter.Printed.{printed_name}
use Rattle.definedness.specs.declared.paths.Undefined.{Undefined}
use Rattle.crell_program.specs.CrellAnswers.Answer.{line_text, path_text}

-- ` %0 0: %x not defined on path %0` behind what is told already
abbrev pub use_behind : List ℕ → Undefined → List ℕ
use_behind told u =
    told ++ line_text u.block u.line ++ codes ": " ++ printed_name sigil.Local u.name ++ codes " not defined on path" ++ path_text u.path
