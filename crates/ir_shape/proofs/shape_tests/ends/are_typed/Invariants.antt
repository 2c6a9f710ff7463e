use Rattle.std.proofs.Common.{◌≡◌, drop}
use Rattle.std.specs.List.{list_all}
use Rattle.ir_core.specs.declared.functions.Case.{Case}
use Rattle.ir_types.specs.Same.{same_ty}
use Rattle.ir_shape.proofs.shape_tests.ends.are_typed.Given as goal

abbrev pub invariant-loop-case : goal.invariant-loop-case
invariant-loop-case l = list_all (λ (c : Case). same_ty c.ty l.value) (drop l.case-index l.cases) ≡ list_all (λ (c : Case). same_ty c.ty l.value) l.cases
