use Rattle.std.proofs.Common.{◌≡◌, drop, map}
use Rattle.ir_core.specs.declared.functions.Case.{Case}
use Rattle.ir_core.specs.Depths.{depth_of}
use Rattle.ir_typing.specs.ModuleLimits.Within.{are_shallow}
use Rattle.ir_typing.proofs.module_limits.depths.are_cases_shallow.Given as goal

abbrev pub invariant-loop-case : goal.invariant-loop-case
invariant-loop-case l = are_shallow (map (λ (c : Case). depth_of c.ty) (drop l.case-index l.cases)) ≡ are_shallow (map (λ (c : Case). depth_of c.ty) l.cases)
