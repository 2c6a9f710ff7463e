use Rattle.std.proofs.Common.{◌≡◌, drop}
use Rattle.std.specs.List.{list_all}
use Rattle.ir_core.specs.declared.modules.DeclaredParam.{DeclaredParam}
use Rattle.ir_core.specs.Types.{is_first_class}
use Rattle.ir_shape.proofs.line_shapes.told.are_declared_values.Given as goal

abbrev pub invariant-loop-param : goal.invariant-loop-param
invariant-loop-param l =
    list_all (λ (p : DeclaredParam). is_first_class p.ty) (drop l.param-index l.params) ≡ list_all (λ (p : DeclaredParam). is_first_class p.ty) l.params
