use Rattle.std.proofs.Common.{◌∙◌, List, [], ◌∷◌, map, Some, refl}
use Rattle.ir_core.specs.declared.functions.Param.{Param}
use Rattle.ir_typing.specs.ShapeKinds.Kept.{type_in}
use Rattle.ir_shape.specs.ShapeTests.Kinds.{typed}
use Rattle.ir_shape.proofs.LineShapes.Untold.{more_untold, untold_one}
use Rattle.ir_shape.proofs.line_shapes.types.put_params.Goals as goal

pub loop-param-preserved : goal.loop-param-preserved
loop-param-preserved c =
    let param = c.param-item.result in
    more_untold (λ (p : Param). (p.name, Some p.ty) ∷ []) (λ (ps : List Param). typed (map (λ (p : Param). (p.name, p.ty)) ps)) (λ x xs. refl) (type_in c.loop-param.types) (type_in c.put_first.new.self) c.args.params.now
    c.loop-param.param-index param c.loop-param.new c.in_ok-first.first c.both-new.result _ _ c.loop-param-test.true c.param-item.is
    (c.in_ok-first.ensures.new ∙ untold_one (type_in c.loop-param.types) param.name (Some param.ty)) c.in_ok-first.ensures.types c.both-new.ensures c.loop-param.invariant
