use Rattle.std.proofs.Common.{◌≡◌, ◌++◌, drop, map}
use Rattle.ir_core.specs.declared.functions.Param.{Param}
use Rattle.ir_core.specs.Functions.{names_in}
use Rattle.definedness.specs.DefinitionLists.Shown.{named}
use Rattle.definedness.proofs.definition_lists.names.add_params.Given as goal

abbrev pub invariant-loop-param : goal.invariant-loop-param
invariant-loop-param l =
    named l.names.items ++ names_in (map (λ (p : Param). (p.name, p.ty)) (drop l.param-index l.params))
    ≡ named l.initial.names.items ++ names_in (map (λ (p : Param). (p.name, p.ty)) l.params)
