use Rattle.std.proofs.Common.{◌≡◌, ◌∙◌, List, [], Some, ap, rules}
use Rattle.derivation_cursor.specs.At.{ahead_of}
use Rattle.module_derivations.specs.FlatMarks.Flat.{skip}
use Rattle.ir_types.specs.declared.ty.Ty.{Ty}
use Rattle.module_derivations.specs.Empty.{made}
use Rattle.module_derivations.specs.Parts.{Part}
use Rattle.module_spelling.specs.Blocks.{so_many, wanted_by_init}
use Rattle.named_modules.specs.Faults.{align_faults, init_faults, type_faults}
use Rattle.fault_walk.specs.Items.{held_global}
use Rattle.fault_walk.specs.Stated.{stated}
use Rattle.fault_walk.specs.Told.{told_more}
use Rattle.fault_walk.specs.declared.constants.Stated.{Stated}
use Rattle.fault_walk.proofs.ItemCases.{global_noted}
use Rattle.fault_walk.proofs.items.note_held_global.Goals as goal

pub returns-clause-told : goal.returns-clause-told
returns-clause-told c =
    let h = c.args.sight.now in
    let s = ahead_of c.args.c.now in
    let w = held_global s in
    let of : c.in_ok-of.of ≡ stated h w.ty = search rules in
    let one : c.read_stated.new.told ≡ told_more h (type_faults h w.ty) [] c.args.told.now = search rules in
    let two : c.note_block.new.told ≡ told_more h [] (so_many h w.ty (Some 1)) c.read_stated.new.told = c.note_block.ensures w.ty of in
    let here : ahead_of c.read_stated.new.c ≡ skip 5 s = search rules in
    let three =
    c.in_ok-note_init.ensures.told
    ∙ ap (λ (ps : List Part). told_more h (init_faults h (made ps).init c.in_ok-of.of.ty) (wanted_by_init h (made ps).init) c.note_block.new.told) here
    ∙ ap (λ (t : Ty). told_more h (init_faults h (made (skip 5 s)).init t) (wanted_by_init h (made (skip 5 s)).init) c.note_block.new.told) (ap (λ (x : Stated). x.ty) of) in
    let four : c.note_align.new.told ≡ told_more h (align_faults w.align) [] c.note_init.new.told = search rules in
    global_noted h w c.args.told.now c.read_stated.new.told c.note_block.new.told c.note_init.new.told c.note_align.new.told one two three four
