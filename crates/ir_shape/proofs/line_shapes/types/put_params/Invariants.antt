use Rattle.std.proofs.Common.{◌≡◌, ◌&&◌, drop, map}
use Rattle.ir_core.specs.declared.functions.Param.{Param}
use Rattle.ir_shape.specs.ShapeTests.Kinds.{typed}
use Rattle.ir_typing.specs.ShapeKinds.Kept.{type_in}
use Rattle.ir_typing.specs.ShapeKinds.Typed.{with_types}
use Rattle.ir_shape.specs.LineShapes.Untold.{are_untold}
use Rattle.ir_shape.proofs.line_shapes.types.put_params.Given as goal

abbrev pub invariant-loop-param : goal.invariant-loop-param
invariant-loop-param l =
    (with_types (type_in l.types) (typed (map (λ (p : Param). (p.name, p.ty)) (drop l.param-index l.params))) ≡ with_types (type_in l.initial.types) (typed (map (λ (p : Param). (p.name, p.ty)) l.params)))
    × ((l.new && are_untold (type_in l.types) (typed (map (λ (p : Param). (p.name, p.ty)) (drop l.param-index l.params)))) ≡ are_untold (type_in l.initial.types) (typed (map (λ (p : Param). (p.name, p.ty)) l.params)))
