use Rattle.std.proofs.Common.{◌≡◌, [], drop}
use Rattle.ir_typing.specs.ShapeKinds.Names.{with_names}
use Rattle.ir_shape.specs.ShapeTests.Typed.{param_names}
use Rattle.ir_shape.proofs.first.param_names.Given as goal

abbrev pub invariant-loop-param : goal.invariant-loop-param
invariant-loop-param l = with_names l.names (param_names (drop l.param-index l.«function».params)) ≡ with_names [] (param_names l.«function».params)
