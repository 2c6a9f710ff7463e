use Rattle.std.proofs.Common.{◌≡◌, length}
use Rattle.rule_base.specs.Rows.{one_made}
use Rattle.rule_base.proofs.substitution.one_of_many.Given as goal

-- the operands that are left decide
abbrev pub invariant-loop-x : goal.invariant-loop-x
invariant-loop-x l = one_made l.before l.after l.left l.right ≡ one_made l.before l.after l.xs l.ys

abbrev pub decreases-loop-x : goal.decreases-loop-x
decreases-loop-x l = length l.left
