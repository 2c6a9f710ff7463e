use Rattle.std.proofs.Common.{rules}
use Rattle.ir_core.proofs.SameInits.{arrays_same, structs_same}
use Rattle.ir_core.proofs.modules.InitExact.+is.Goals as goal

pub returns-after-loop-i : goal.returns-after-loop-i
returns-after-loop-i t c =
    let a = c.get-mine.result.now in
    let b = c.get-theirs.result.now in
    let same = arrays_same a b c.loop-i.i (search rules) (search rules) c.loop-i.invariant in
    (λ yes. search (rules, same), λ is. search rules)

pub returns-after-loop-i-2 : goal.returns-after-loop-i-2
returns-after-loop-i-2 t c =
    let a = c.get-mine-in-Struct-Struct.result.now in
    let b = c.get-theirs-in-Struct-Struct.result.now in
    let same = structs_same a b c.loop-i-2.i (search rules) (search rules) c.loop-i-2.invariant in
    (λ yes. search (rules, same), λ is. search rules)
