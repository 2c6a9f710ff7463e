use Rattle.std.proofs.Common.{◌≡◌, ◌++◌, IsTrue, drop, map, codes}
use Rattle.ir_printer.specs.ExpressionPrinter.Printed.{listed, printed_parts}
use Rattle.ir_printer.proofs.expression_printer.types.+push_parts.Given as goal

abbrev pub invariant-loop-i : goal.invariant-loop-i
invariant-loop-i l =
    IsTrue l.text.whole → IsTrue l.initial.text.whole
    × (l.text.bytes.items ++ listed l.before (map printed_parts (drop l.i l.fields)) ≡ l.initial.text.bytes.items ++ listed (codes "{ ") (map printed_parts l.fields))
