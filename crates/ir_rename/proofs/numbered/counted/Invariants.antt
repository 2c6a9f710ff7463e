use Rattle.std.proofs.Common.{◌≡◌, ◌≤◌, ◌++◌, drop}
use Rattle.ir_rename.specs.Lent.{lent}
use Rattle.ir_rename.specs.Numbered.{counted}
use Rattle.ir_rename.proofs.numbered.counted.Given as goal

abbrev pub invariant-loop-name : goal.invariant-loop-name
invariant-loop-name l =
    (l.due ≤ l.name-index) × (l.given.items ++ counted l.due (lent (drop l.name-index l.names)) ≡ counted 0 (lent l.names))
