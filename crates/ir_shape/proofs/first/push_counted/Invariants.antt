use Rattle.std.proofs.Common.{◌≡◌, ◌++◌, drop}
use Rattle.ir_typing.specs.ShapeKinds.Kept.{type_in}
use Rattle.ir_shape.specs.ShapeTests.Edges.{named}
use Rattle.ir_shape.specs.Shape.{phi_kinds, with_phis}
use Rattle.ir_shape.proofs.first.push_counted.Given as goal

abbrev pub invariant-loop-phi : goal.invariant-loop-phi
invariant-loop-phi l =
    (l.kinds.items ++ phi_kinds l.scope.beside.now l.scope.labels (type_in l.scope.types) (named l.edges) l.names (drop l.phi-index l.phis)
    ≡ l.initial.kinds.items ++ phi_kinds l.scope.beside.now l.scope.labels (type_in l.scope.types) (named l.edges) l.initial.names l.phis)
    × (with_phis l.names (drop l.phi-index l.phis) ≡ with_phis l.initial.names l.phis)
