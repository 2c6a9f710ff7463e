use Rattle.std.proofs.Common.{◌≡◌, ◌++◌, map, drop}
use Rattle.ir_core.specs.declared.functions.Param.{Param}
use Rattle.erhl_checker.proofs.function_lookup.definitions.note_params.Given as goal

abbrev pub invariant-loop-param : goal.invariant-loop-param
invariant-loop-param l =
    l.found.items ++ map (λ (p : Param). (p.name, p.ty)) (drop l.param-index l.params)
    ≡ l.initial.found.items ++ map (λ (p : Param). (p.name, p.ty)) l.params
