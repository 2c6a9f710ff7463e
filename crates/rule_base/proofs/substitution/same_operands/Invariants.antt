use Rattle.std.proofs.Common.{◌≡◌, length}
use Rattle.ir_types.specs.Same.{same_list}
use Rattle.ir_core.specs.Same.{same_reg, same_operand}
use Rattle.rule_base.proofs.substitution.same_operands.Given as goal

-- the operands that are left decide
abbrev pub invariant-loop-x : goal.invariant-loop-x
invariant-loop-x l = same_list (same_operand same_reg) l.left l.right ≡ same_list (same_operand same_reg) l.xs l.ys

abbrev pub decreases-loop-x : goal.decreases-loop-x
decreases-loop-x l = length l.left
