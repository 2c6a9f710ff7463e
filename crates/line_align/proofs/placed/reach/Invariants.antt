use Rattle.std.proofs.Common.{◌≡◌, ℕ, ◌+◌, ◌-◌, vec_len}
use Rattle.line_align.specs.Placed.{kept_at}
use Rattle.line_align.proofs.placed.reach.Given as goal

abbrev pub invariant-loop-alloc : goal.invariant-loop-alloc
invariant-loop-alloc l = (n : ℕ) → kept_at l.kept.items n ≡ kept_at l.initial.kept.items n

abbrev pub decreases-loop-alloc : goal.decreases-loop-alloc
decreases-loop-alloc l = l.k + 1 - vec_len l.kept
