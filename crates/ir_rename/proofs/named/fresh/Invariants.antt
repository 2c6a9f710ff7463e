use Rattle.std.proofs.Common.{◌≡◌, ◌≤◌, ◌-◌, length}
use Rattle.ir_rename.specs.Lent.{lent}
use Rattle.ir_rename.specs.Named.{free_in, fresh}
use Rattle.ir_rename.proofs.named.fresh.Given as goal

-- what is left to try gives the same text
abbrev pub invariant-loop-tried : goal.invariant-loop-tried
invariant-loop-tried l =
    (l._tried ≤ length l.taken)
    × (free_in (length l.taken - l._tried) (lent l.taken) l.text.items ≡ fresh (lent l.taken) l.initial.text.items)
