use Rattle.std.proofs.Common.{◌≡◌, drop}
use Rattle.ir_types.specs.Same.{same_list, same_ty}
use Rattle.erhl_assert.specs.Allowed.{stated_types}
use Rattle.postcondition.proofs.allowed_lines.agreement.same_stated_types.Given as goal

abbrev pub invariant-loop-a : goal.invariant-loop-a
invariant-loop-a l = same_list same_ty (stated_types (drop l.a-index l.source)) (stated_types l.rest) ≡ same_list same_ty (stated_types l.source) (stated_types l.target)
