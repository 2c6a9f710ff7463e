use Rattle.std.proofs.Common.{◌∙◌, List, [], ◌∷◌, Some, refl}
use Rattle.ir_core.specs.Functions.{phi_registers}
use Rattle.ir_core.specs.declared.functions.Phi.{Phi}
use Rattle.ir_typing.specs.ShapeKinds.Kept.{type_in}
use Rattle.ir_shape.specs.ShapeTests.Kinds.{typed}
use Rattle.ir_shape.proofs.LineShapes.Untold.{more_untold, untold_one}
use Rattle.ir_shape.proofs.line_shapes.types.put_phis.Goals as goal

pub loop-phi-preserved : goal.loop-phi-preserved
loop-phi-preserved c =
    let phi = c.phi-item.result in
    more_untold (λ (p : Phi). (p.name, Some p.ty) ∷ []) (λ (ps : List Phi). typed (phi_registers ps)) (λ x xs. refl) (type_in c.loop-phi.types) (type_in c.put_first.new.self) c.args.phis.now
    c.loop-phi.phi-index phi c.loop-phi.new c.in_ok-first.first c.both-new.result _ _ c.loop-phi-test.true c.phi-item.is
    (c.in_ok-first.ensures.new ∙ untold_one (type_in c.loop-phi.types) phi.name (Some phi.ty)) c.in_ok-first.ensures.types c.both-new.ensures c.loop-phi.invariant
