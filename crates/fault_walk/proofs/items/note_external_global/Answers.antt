use Rattle.std.proofs.Common.{◌≡◌, [], Some, refl, rules}
use Rattle.derivation_cursor.specs.At.{ahead_of}
use Rattle.module_spelling.specs.Blocks.{so_many}
use Rattle.named_modules.specs.Faults.{align_faults, type_faults}
use Rattle.fault_walk.specs.Items.{external_global}
use Rattle.fault_walk.specs.Stated.{stated}
use Rattle.fault_walk.specs.Told.{told_more}
use Rattle.fault_walk.proofs.ItemCases.{global_noted}
use Rattle.fault_walk.proofs.items.note_external_global.Goals as goal

pub returns-clause-told : goal.returns-clause-told
returns-clause-told c =
    let h = c.args.sight.now in
    let w = external_global (ahead_of c.args.c.now) in
    let of : c.in_ok-of.of ≡ stated h w.ty = search rules in
    let one : c.read_stated.new.told ≡ told_more h (type_faults h w.ty) [] c.args.told.now = search rules in
    let two : c.note_block.new.told ≡ told_more h [] (so_many h w.ty (Some 1)) c.read_stated.new.told = c.note_block.ensures w.ty of in
    let four : c.note_align.new.told ≡ told_more h (align_faults w.align) [] c.note_block.new.told = search rules in
    global_noted h w c.args.told.now c.read_stated.new.told c.note_block.new.told c.note_block.new.told c.note_align.new.told one two refl four
