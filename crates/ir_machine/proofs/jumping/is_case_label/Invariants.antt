use Rattle.std.proofs.Common.{◌≡◌, drop}
use Rattle.std.specs.List.{list_any}
use Rattle.ir_types.specs.Same.{same_name}
use Rattle.ir_machine.proofs.Landing.{labels_in}
use Rattle.ir_machine.proofs.jumping.is_case_label.Given as goal

abbrev pub invariant-loop-i : goal.invariant-loop-i
invariant-loop-i l = list_any (same_name l.name) (labels_in (drop l.i l.cases)) ≡ list_any (same_name l.name) (labels_in l.cases)
