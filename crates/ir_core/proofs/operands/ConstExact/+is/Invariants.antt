use Rattle.std.proofs.Common.{◌≡◌, take}
use Rattle.ir_core.proofs.operands.ConstExact.+is.Given as goal

abbrev pub invariant-loop-i : goal.invariant-loop-i
invariant-loop-i l = take l.i l.mine.2 ≡ take l.i l.theirs.2

abbrev pub invariant-loop-i-2 : goal.invariant-loop-i-2
invariant-loop-i-2 l = take l.i l.mine.1 ≡ take l.i l.theirs.1
