use Rattle.std.proofs.Common.{◌≡◌}
use Rattle.std.proofs.Common.{take}
use Rattle.contents.proofs.exact.SeqExact.is.Given as goal

abbrev pub invariant-loop-i : goal.invariant-loop-i
invariant-loop-i g l = take l.i l.self ≡ take l.i l.other
