use Rattle.std.proofs.Common.{◌≡◌, ◌∙◌, ap, sym, rules}
use Rattle.derivation_cursor.specs.At.{ahead_of}
use Rattle.fault_walk.proofs.Other.{no_operation_told}
use Rattle.fault_walk.specs.Told.{told_more}
use Rattle.module_derivations.specs.Empty.{made, no_operation}
use Rattle.module_spelling.specs.Blocks.{wanted_by_operation}
use Rattle.module_walk.proofs.OtherOperations.{another_operation}
use Rattle.named_modules.specs.Faults.{operation_faults}
use Rattle.fault_walk.proofs.lines.note_operation.Goals as goal

pub returns-in_default-clause-told : goal.returns-in_default-clause-told
returns-in_default-clause-told c =
    let h = c.args.within.now.heads in
    let ts = c.args.within.now.things in
    let s = ahead_of c.args.c.now in
    let t = c.args.told.now in
    let none : (made s).operation ≡ no_operation = search (rules, another_operation) in
    sym (ap (λ w. told_more h (operation_faults h ts w) (wanted_by_operation h w) t) none ∙ no_operation_told h ts t)
