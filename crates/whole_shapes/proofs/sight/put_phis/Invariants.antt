use Rattle.std.proofs.Common.{◌≡◌, drop}
use Rattle.ir_core.specs.Functions.{names_in, phi_registers}
use Rattle.ir_shape.specs.ShapeTests.Kinds.{are_new, with_names}
use Rattle.whole_shapes.proofs.sight.put_phis.Given as goal

abbrev pub invariant-loop-phi : goal.invariant-loop-phi
invariant-loop-phi l =
    (are_new l.sight.names (names_in (phi_registers (drop l.phi-index l.phis))) ≡ are_new l.initial.sight.names (names_in (phi_registers l.phis)))
    × (with_names l.sight.names (names_in (phi_registers (drop l.phi-index l.phis))) ≡ with_names l.initial.sight.names (names_in (phi_registers l.phis)))
