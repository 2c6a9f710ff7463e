use Rattle.std.proofs.Common.{◌≡◌, drop}
use Rattle.ir_shape.specs.ShapeTests.Kinds.{are_new, with_names}
use Rattle.ir_shape.specs.ShapeTests.Typed.{param_names}
use Rattle.whole_shapes.proofs.sight.put_params.Given as goal

abbrev pub invariant-loop-param : goal.invariant-loop-param
invariant-loop-param l =
    (are_new l.sight.names (param_names (drop l.param-index l.params)) ≡ are_new l.initial.sight.names (param_names l.params))
    × (with_names l.sight.names (param_names (drop l.param-index l.params)) ≡ with_names l.initial.sight.names (param_names l.params))
