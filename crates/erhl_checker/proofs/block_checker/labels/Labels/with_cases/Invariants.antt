use Rattle.std.proofs.Common.{◌≡◌, map, drop}
use Rattle.definedness.specs.Along.{with_names}
use Rattle.ir_core.specs.declared.functions.Case.{Case}
use Rattle.erhl_checker.proofs.block_checker.labels.Labels.with_cases.Given as goal

abbrev pub invariant-loop-case : goal.invariant-loop-case
invariant-loop-case l =
    with_names l.labels.met (map (λ (c : Case). c.label) (drop l.case-index l.cases)) ≡ with_names l.initial.labels.met (map (λ (c : Case). c.label) l.cases)
