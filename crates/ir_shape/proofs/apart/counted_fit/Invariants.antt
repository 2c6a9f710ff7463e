use Rattle.std.proofs.Common.{◌≡◌, drop}
use Rattle.ir_typing.specs.ShapeKinds.Kept.{type_in}
use Rattle.ir_shape.specs.ShapeTests.Edges.{named}
use Rattle.ir_shape.specs.Apart.{in_each, new_phi_kinds}
use Rattle.ir_shape.proofs.apart.counted_fit.Given as goal

-- the phis that are left decide
abbrev pub invariant-loop-line : goal.invariant-loop-line
invariant-loop-line l =
    in_each l.function l.block l.line (new_phi_kinds l.scope.beside.now l.scope.labels (type_in l.scope.types) (named l.edges) (drop l.line l.phis))
    ≡ in_each l.function l.block 0 (new_phi_kinds l.scope.beside.now l.scope.labels (type_in l.scope.types) (named l.edges) l.phis)
