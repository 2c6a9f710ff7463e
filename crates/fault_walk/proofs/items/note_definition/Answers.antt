use Rattle.std.proofs.Common.{◌≡◌, ◌∙◌, [], None, ap, rules}
use Rattle.std.specs.List.{flat_map}
use Rattle.derivation_cursor.specs.At.{ahead_of}
use Rattle.derivation_cursor.specs.declared.cursor.Cursor.{Cursor}
use Rattle.module_spelling.specs.Blocks.{wanted_by_block}
use Rattle.module_walk.specs.Items.{definition}
use Rattle.named_modules.specs.Constants.{global_name}
use Rattle.named_modules.specs.Faults.{block_faults, function_written, param_faults, result_faults, things_of, written_faults}
use Rattle.named_modules.specs.Functions.{blocks_in}
use Rattle.fault_walk.specs.Told.{noted, told_more}
use Rattle.fault_walk.proofs.ItemCases.{definition_noted}
use Rattle.fault_walk.proofs.items.note_definition.Goals as goal

pub returns-clause-told : goal.returns-clause-told
returns-clause-told g c is =
    let h = c.args.sight.now in
    let stated = g.S.Gaps.called c.args.around.now in
    let d = definition (ahead_of c.args.c.now) in
    let f = c.args.function.now in
    let result : c.note_result.new.told ≡ told_more h (result_faults h d.head.result.ty) [] c.args.told.now = search rules in
    let params : c.note_params.new.told ≡ told_more h (flat_map (param_faults h) d.head.params) [] c.note_result.new.told = search rules in
    let blocks : c.note_body.new.told ≡ told_more h (flat_map (block_faults h stated (things_of h.types f)) (blocks_in d)) (flat_map (wanted_by_block h) (blocks_in d)) c.note_params.new.told =
    search rules in
    definition_noted h stated d f c.args.told.now c.note_result.new.told c.note_params.new.told c.note_body.new.told c.note_other.new.told c.in_ok-other.other is
    (c.in_ok-other.ensures
    ∙ ap (λ (x : Cursor). noted (written_faults (global_name (definition (ahead_of x)).head.name) [] 0 (function_written (definition (ahead_of x)))) None) c.fork-names.ensures)
    result params blocks c.note_other.ensures.fault c.note_other.ensures.large
