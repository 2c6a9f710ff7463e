use Rattle.std.proofs.Common.{◌≡◌, ◌++◌, drop, map}
use Rattle.ir_core.specs.declared.functions.Param.{Param}
use Rattle.ir_core.specs.Functions.{names_in}
use Rattle.ir_rename.specs.Lent.{lent}
use Rattle.ir_rename.proofs.names.add_params.Given as goal

abbrev pub invariant-loop-param : goal.invariant-loop-param
invariant-loop-param l =
    lent l.names.items ++ names_in (map (λ (p : Param). (p.name, p.ty)) (drop l.param-index l.params))
    ≡ lent l.initial.names.items ++ names_in (map (λ (p : Param). (p.name, p.ty)) l.params)
