use Rattle.std.proofs.Common.{◌≡◌, ◌++◌, [], IsTrue, codes, drop, map}
use Rattle.ir_printer.specs.ExpressionPrinter.Printed.{listed}
use Rattle.ir_printer.proofs.Inits.{typed_init}
use Rattle.ir_printer.proofs.globals.+push_init.Given as goal

abbrev pub invariant-loop-i : goal.invariant-loop-i
invariant-loop-i l =
    IsTrue l.text.whole → IsTrue l.initial.text.whole
    × (l.text.bytes.items ++ listed l.before (map typed_init (drop l.i l.elements)) ≡ l.initial.text.bytes.items ++ listed [] (map typed_init l.elements))

abbrev pub invariant-loop-i-2 : goal.invariant-loop-i-2
invariant-loop-i-2 l =
    IsTrue l.text.whole → IsTrue l.initial.text.whole
    × (l.text.bytes.items ++ listed l.before (map typed_init (drop l.i l.fields)) ≡ l.initial.text.bytes.items ++ listed (codes "{ ") (map typed_init l.fields))
