use Rattle.std.proofs.Common.{◌≡◌, IsTrue, drop}
use Rattle.ir_core.specs.Modules.{those_behind}
use Rattle.ir_printer.proofs.Behind.{behind_before}
use Rattle.ir_printer.proofs.modules.push_before.Given as goal

abbrev pub invariant-loop-i : goal.invariant-loop-i
invariant-loop-i l =
    (IsTrue l.text.whole → IsTrue l.initial.text.whole
    × (behind_before l.count l.text.bytes.items (drop l.i l.declarations) ≡ behind_before l.count l.initial.text.bytes.items l.declarations))
    × (those_behind l.count (drop l.i l.declarations) ≡ those_behind l.count l.declarations)
