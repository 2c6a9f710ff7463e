use Rattle.std.proofs.Common.{◌≡◌, IsTrue, drop}
use Rattle.ir_printer.specs.Printed.{all_behind, function_texts}
use Rattle.ir_printer.proofs.modules.push_functions.Given as goal

abbrev pub invariant-loop-i : goal.invariant-loop-i
invariant-loop-i l =
    IsTrue l.text.whole → IsTrue l.initial.text.whole
    × (all_behind l.text.bytes.items (function_texts l.declared l.i l.rest (drop l.i l.functions))
    ≡ all_behind l.initial.text.bytes.items (function_texts l.declared 0 l.declarations l.functions))
