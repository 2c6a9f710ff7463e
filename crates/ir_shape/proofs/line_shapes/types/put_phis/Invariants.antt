use Rattle.std.proofs.Common.{◌≡◌, ◌&&◌, drop}
use Rattle.ir_core.specs.Functions.{phi_registers}
use Rattle.ir_shape.specs.ShapeTests.Kinds.{typed}
use Rattle.ir_typing.specs.ShapeKinds.Kept.{type_in}
use Rattle.ir_typing.specs.ShapeKinds.Typed.{with_types}
use Rattle.ir_shape.specs.LineShapes.Untold.{are_untold}
use Rattle.ir_shape.proofs.line_shapes.types.put_phis.Given as goal

abbrev pub invariant-loop-phi : goal.invariant-loop-phi
invariant-loop-phi l =
    (with_types (type_in l.types) (typed (phi_registers (drop l.phi-index l.phis))) ≡ with_types (type_in l.initial.types) (typed (phi_registers l.phis)))
    × ((l.new && are_untold (type_in l.types) (typed (phi_registers (drop l.phi-index l.phis)))) ≡ are_untold (type_in l.initial.types) (typed (phi_registers l.phis)))
