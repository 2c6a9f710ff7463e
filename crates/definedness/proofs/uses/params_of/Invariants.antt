use Rattle.std.proofs.Common.{◌≡◌, [], drop, map}
use Rattle.ir_core.specs.declared.functions.Param.{Param}
use Rattle.ir_core.specs.Functions.{names_in}
use Rattle.definedness.specs.Along.{with_names}
use Rattle.definedness.proofs.uses.params_of.Given as goal

-- the parameters that are left lead on to what all lead to
abbrev pub invariant-loop-param : goal.invariant-loop-param
invariant-loop-param l =
    with_names l.names (names_in (map (λ (p : Param). (p.name, p.ty)) (drop l.param-index l.params)))
    ≡ with_names [] (names_in (map (λ (p : Param). (p.name, p.ty)) l.params))
