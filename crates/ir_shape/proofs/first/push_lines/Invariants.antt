use Rattle.std.proofs.Common.{◌≡◌, ◌++◌, drop}
use Rattle.ir_typing.specs.ShapeKinds.Kept.{type_in}
use Rattle.ir_shape.specs.Shape.{line_kinds, with_lines}
use Rattle.ir_shape.proofs.first.push_lines.Given as goal

abbrev pub invariant-loop-line : goal.invariant-loop-line
invariant-loop-line l =
    (l.kinds.items ++ line_kinds l.scope.beside.now (type_in l.scope.types) l.names (drop l.line-index l.lines)
    ≡ l.initial.kinds.items ++ line_kinds l.scope.beside.now (type_in l.scope.types) l.initial.names l.lines)
    × (with_lines l.names (drop l.line-index l.lines) ≡ with_lines l.initial.names l.lines)
