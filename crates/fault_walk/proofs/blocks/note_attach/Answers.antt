use Rattle.std.proofs.Common.{◌≡◌, ◌∙◌, ap, sym, rules}
use Rattle.derivation_cursor.specs.At.{ahead_of}
use Rattle.fault_walk.proofs.Other.{no_operation_told}
use Rattle.fault_walk.specs.Told.{told_more}
use Rattle.module_derivations.specs.Empty.{made, no_operation}
use Rattle.module_spelling.specs.Blocks.{wanted_by_instruction}
use Rattle.module_walk.proofs.OtherLines.{another_attach}
use Rattle.named_modules.specs.Faults.{instruction_faults}
use Rattle.module_grammar.specs.declared.lines.InstructionText.TheVariants as instruction
use Rattle.fault_walk.proofs.blocks.note_attach.Goals as goal

pub returns-in_default-clause-told : goal.returns-in_default-clause-told
returns-in_default-clause-told g c =
    let h = c.args.within.now.heads in
    let ts = c.args.within.now.things in
    let s = ahead_of c.args.c.now in
    let t = c.args.told.now in
    let calls = g.S.Gaps.called c.args.around.now in
    let none : (made s).attach.instruction ≡ instruction.Operation no_operation = search (rules, another_attach) in
    sym (ap (λ w. told_more h (instruction_faults h calls ts w) (wanted_by_instruction h w) t) none ∙ no_operation_told h ts t)
