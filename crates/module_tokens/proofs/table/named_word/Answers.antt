use Rattle.std.proofs.Common.{refl, ◌∙◌}
use Rattle.module_tokens.proofs.Slots.{said_by_slot}
use Rattle.module_tokens.proofs.table.named_word.Goals as goal

pub returns : goal.returns
returns c =
    c.said_at.ensures
    ∙ said_by_slot c.numbers.result.now _ c.args.word.now c.slot.result c.byte_at.result c.slot.ensures c.byte_at.ensures refl
    c.numbers.ensures
