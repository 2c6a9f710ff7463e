use Rattle.std.proofs.Common.{◌≡◌, drop}
use Rattle.ir_typing.specs.ShapeKinds.Kept.{type_in}
use Rattle.ir_shape.specs.Apart.{in_each, new_line_kinds}
use Rattle.ir_shape.proofs.apart.lines_fit.Given as goal

-- the lines that are left decide
abbrev pub invariant-loop-line : goal.invariant-loop-line
invariant-loop-line l =
    in_each l.function l.block l.number (new_line_kinds l.scope.beside.now (type_in l.scope.types) (drop l.line-index l.lines))
    ≡ in_each l.function l.block l.first (new_line_kinds l.scope.beside.now (type_in l.scope.types) l.lines)
