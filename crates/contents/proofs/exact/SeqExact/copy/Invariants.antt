use Rattle.std.proofs.Common.{◌≡◌, take}
use Rattle.contents.proofs.exact.SeqExact.copy.Given as goal

abbrev pub invariant-loop-x : goal.invariant-loop-x
invariant-loop-x g l = l.copy ≡ take l.x-index l.x-items
