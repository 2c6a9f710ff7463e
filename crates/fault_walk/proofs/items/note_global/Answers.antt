use Rattle.std.proofs.Common.{◌≡◌, ◌∙◌, ap, rules, sym}
use Rattle.std.proofs.lemmas.Result.{on_ok_weaker}
use Rattle.derivation_cursor.specs.At.{ahead_of}
use Rattle.module_derivations.specs.FlatMarks.Flat.{behind}
use Rattle.module_derivations.specs.Empty.{made, no_global_body}
use Rattle.module_grammar.specs.declared.items.GlobalBodyText.{GlobalBodyText}
use Rattle.module_spelling.specs.Blocks.{wanted_by_global}
use Rattle.named_modules.specs.Faults.{global_var_faults}
use Rattle.fault_walk.specs.Items.{held_global}
use Rattle.fault_walk.specs.Told.{told_more}
use Rattle.fault_walk.proofs.ItemCases.{no_global_there, nothing_wanted}
use Rattle.fault_walk.proofs.items.note_global.Goals as goal

pub returns-in-Some-eq12-clause-told : goal.returns-in-Some-eq12-clause-told
returns-in-Some-eq12-clause-told c =
    let h = c.args.sight.now in
    let is : (made (behind (ahead_of c.args.c.now))).global_body ≡ held_global (ahead_of c.rule.new.self) = search rules in
    on_ok_weaker c.note_held_global.result
    (λ told. told ∙ sym (ap (λ (w : GlobalBodyText). told_more h (global_var_faults h w) (wanted_by_global h w) c.args.told.now) is)) c.note_held_global.ensures.told

pub returns-in_default-clause-told : goal.returns-in_default-clause-told
returns-in_default-clause-told c =
    let h = c.args.sight.now in
    let none : (made (behind (ahead_of c.args.c.now))).global_body ≡ no_global_body = search (rules, no_global_there) in
    nothing_wanted h c.args.told.now ∙ sym (ap (λ (w : GlobalBodyText). told_more h (global_var_faults h w) (wanted_by_global h w) c.args.told.now) none)
