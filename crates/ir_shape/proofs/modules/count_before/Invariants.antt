use Rattle.std.proofs.Common.{◌≡◌, ◌++◌, drop, take}
use Rattle.ir_core.specs.Modules.{those_before, those_behind}
use Rattle.ir_shape.proofs.modules.count_before.Given as goal

abbrev pub invariant-loop-i : goal.invariant-loop-i
invariant-loop-i l =
    (take l.i l.declarations ++ those_before l.count (drop l.i l.declarations) ≡ those_before l.count l.declarations)
    × (those_behind l.count (drop l.i l.declarations) ≡ those_behind l.count l.declarations)
