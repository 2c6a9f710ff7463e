use Rattle.std.proofs.Common.{◌≡◌, length}
use Rattle.rule_base.specs.Rows.{keep_fields}
use Rattle.rule_base.proofs.substitution.keep_fields.Given as goal

-- the indices that are left decide
abbrev pub invariant-loop-x : goal.invariant-loop-x
invariant-loop-x l = keep_fields l.types l.ty l.left l.right ≡ keep_fields l.types l.of l.xs l.ys

abbrev pub decreases-loop-x : goal.decreases-loop-x
decreases-loop-x l = length l.left
