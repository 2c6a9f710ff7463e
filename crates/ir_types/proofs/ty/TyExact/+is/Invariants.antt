use Rattle.std.proofs.Common.{◌≡◌, take}
use Rattle.ir_types.proofs.ty.TyExact.+is.Given as goal

abbrev pub invariant-loop-i : goal.invariant-loop-i
invariant-loop-i l = take l.i l.mine ≡ take l.i l.theirs
