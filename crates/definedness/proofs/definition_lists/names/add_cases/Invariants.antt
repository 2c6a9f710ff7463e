use Rattle.std.proofs.Common.{◌≡◌, ◌++◌, drop, map}
use Rattle.ir_core.specs.declared.functions.Case.{Case}
use Rattle.definedness.specs.DefinitionLists.Shown.{named}
use Rattle.definedness.proofs.definition_lists.names.add_cases.Given as goal

abbrev pub invariant-loop-case : goal.invariant-loop-case
invariant-loop-case l =
    named l.names.items ++ map (λ (c : Case). c.label) (drop l.case-index l.cases) ≡ named l.initial.names.items ++ map (λ (c : Case). c.label) l.cases
