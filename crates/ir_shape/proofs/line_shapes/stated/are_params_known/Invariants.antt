use Rattle.std.proofs.Common.{◌≡◌, drop, map}
use Rattle.ir_core.specs.declared.functions.Param.{Param}
use Rattle.ir_typing.specs.OperandTests.Known.{are_types_known}
use Rattle.ir_shape.proofs.line_shapes.stated.are_params_known.Given as goal

abbrev pub invariant-loop-param : goal.invariant-loop-param
invariant-loop-param l =
    are_types_known l.beside (map (λ (p : Param). p.ty) (drop l.param-index l.params)) ≡ are_types_known l.beside (map (λ (p : Param). p.ty) l.params)
