use Rattle.std.proofs.Common.{◌≡◌, ◌++◌, drop, map}
use Rattle.ir_core.specs.declared.functions.Case.{Case}
use Rattle.definedness.specs.Flow.{places_by}
use Rattle.definedness.proofs.flow.add_cases.Given as goal

abbrev pub invariant-loop-case : goal.invariant-loop-case
invariant-loop-case l =
    l.places ++ places_by l.labels (map (λ (c : Case). c.label) (drop l.case-index l.cases))
    ≡ l.initial.places ++ places_by l.labels (map (λ (c : Case). c.label) l.cases)
