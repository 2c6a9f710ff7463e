use Rattle.std.proofs.Common.{◌≡◌, ◌<◌, ℕ, length, get_or, false, None}
use Rattle.std.proofs.Common.{is_some}
use Rattle.flow_solver.proofs.reached.reachable.Given as goal

-- the nodes so far are marked where they have a place
abbrev pub invariant-loop-place : goal.invariant-loop-place
invariant-loop-place l =
    (length l.marks.items ≡ l.place-index) × ((n : ℕ) → n < l.place-index → get_or l.marks.items n false ≡ is_some (get_or l.place-items n None))
