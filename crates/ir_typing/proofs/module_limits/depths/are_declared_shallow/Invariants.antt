use Rattle.std.proofs.Common.{◌≡◌, drop, map}
use Rattle.ir_core.specs.declared.modules.DeclaredParam.{DeclaredParam}
use Rattle.ir_core.specs.Depths.{depth_of}
use Rattle.ir_typing.specs.ModuleLimits.Within.{are_shallow}
use Rattle.ir_typing.proofs.module_limits.depths.are_declared_shallow.Given as goal

abbrev pub invariant-loop-param : goal.invariant-loop-param
invariant-loop-param l = are_shallow (map (λ (p : DeclaredParam). depth_of p.ty) (drop l.param-index l.params)) ≡ are_shallow (map (λ (p : DeclaredParam). depth_of p.ty) l.params)
