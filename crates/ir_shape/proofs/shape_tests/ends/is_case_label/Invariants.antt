use Rattle.std.proofs.Common.{◌≡◌, drop, map}
use Rattle.std.specs.List.{list_any}
use Rattle.ir_core.specs.declared.functions.Case.{Case}
use Rattle.ir_types.specs.Same.{same_name}
use Rattle.ir_shape.proofs.shape_tests.ends.is_case_label.Given as goal

abbrev pub invariant-loop-case : goal.invariant-loop-case
invariant-loop-case l =
    list_any (same_name l.name) (map (λ (c : Case). c.label) (drop l.case-index l.cases)) ≡ list_any (same_name l.name) (map (λ (c : Case). c.label) l.cases)
