use Rattle.std.proofs.Common.{◌≡◌, ◌++◌, IsTrue, map, drop}
use Rattle.ir_printer.specs.ExpressionPrinter.Printed.{listed}
use Rattle.ir_printer.proofs.sink.push_listed.Given as goal

abbrev pub invariant-loop-thing : goal.invariant-loop-thing
invariant-loop-thing g l =
    IsTrue l.text.whole → IsTrue l.initial.text.whole
    × (l.text.bytes.items ++ listed l.between (map (g.P.Prints.printed l.by) (drop l.thing-index l.things))
    ≡ l.initial.text.bytes.items ++ listed l.before (map (g.P.Prints.printed l.by) l.things))
