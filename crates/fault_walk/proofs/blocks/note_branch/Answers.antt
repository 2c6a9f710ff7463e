use Rattle.std.proofs.Common.{◌≡◌, ◌∙◌, ap, sym, rules}
use Rattle.derivation_cursor.specs.At.{ahead_of}
use Rattle.fault_walk.proofs.Other.{no_branch}
use Rattle.fault_walk.specs.Told.{told_more}
use Rattle.module_derivations.specs.Empty.{made, no_name}
use Rattle.module_spelling.specs.Blocks.{wanted_by_branch}
use Rattle.named_modules.specs.Faults.{branch_faults}
use Rattle.module_grammar.specs.declared.flow.BranchText.TheVariants as branch
use Rattle.fault_walk.proofs.blocks.note_branch.Goals as goal

pub returns-in_default-clause-told : goal.returns-in_default-clause-told
returns-in_default-clause-told c =
    let h = c.args.within.now.heads in
    let ts = c.args.within.now.things in
    let s = ahead_of c.args.c.now in
    let t = c.args.told.now in
    let none : (made s).branch ≡ branch.Always no_name = search (rules, no_branch) in
    c.note_no_label.ensures ∙ sym (ap (λ w. told_more h (branch_faults h ts w) (wanted_by_branch h w) t) none)
