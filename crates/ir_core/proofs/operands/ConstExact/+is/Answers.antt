use Rattle.std.proofs.Common.{rules}
use Rattle.ir_core.proofs.SameConstants.{casts_same, elements_same}
use Rattle.ir_core.proofs.operands.ConstExact.+is.Goals as goal

pub returns-after-loop-i : goal.returns-after-loop-i
returns-after-loop-i t c =
    let a = c.get-mine.result.now in
    let b = c.get-theirs.result.now in
    let same = elements_same a b c.loop-i.i (search rules) (search rules) (search rules) (search rules) c.loop-i.invariant in
    (λ yes. search (rules, same), λ is. search rules)

pub returns-after-loop-i-2 : goal.returns-after-loop-i-2
returns-after-loop-i-2 t c =
    let a = c.get-mine-in-Cast-Cast.result.now in
    let b = c.get-theirs-in-Cast-Cast.result.now in
    let same = casts_same a b c.loop-i-2.i (search rules) (search rules) (search rules) c.loop-i-2.invariant in
    (λ yes. search (rules, same), λ is. search rules)
