use Rattle.std.proofs.Common.{◌≡◌, IsTrue, drop, map}
use Rattle.ir_printer.specs.Printed.{all_behind, declaration_text}
use Rattle.ir_printer.proofs.modules.push_declarations.Given as goal

abbrev pub invariant-loop-declaration : goal.invariant-loop-declaration
invariant-loop-declaration l =
    IsTrue l.text.whole → IsTrue l.initial.text.whole
    × (all_behind l.text.bytes.items (map declaration_text (drop l.declaration-index l.declarations))
    ≡ all_behind l.initial.text.bytes.items (map declaration_text l.declarations))
