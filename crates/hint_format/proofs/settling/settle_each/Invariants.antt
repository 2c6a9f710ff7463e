use Rattle.std.proofs.Common.{◌≡◌, map, take}
use Rattle.hint_format.proofs.settling.settle_each.Given as goal

-- those that are behind are settled
abbrev pub invariant-loop-item : goal.invariant-loop-item
invariant-loop-item g l = l.all.items ≡ map (g.T.Settle.settled l.types) (take l.item-index l.items)
