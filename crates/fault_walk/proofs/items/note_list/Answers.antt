use Rattle.fault_walk.proofs.ItemCases.{list_noted}
use Rattle.fault_walk.proofs.items.note_list.Goals as goal

pub returns : goal.returns
returns c items is =
    list_noted items c.args.list.now c.args.told.now c.note_twice.new.told c.note_dues.new.told c.note_dues-2.new.told c.note_twice-2.new.told c.note_dues-3.new.told
    c.in_ok-due.due is c.in_ok-note_twice.ensures c.in_ok-due.ensures.told c.in_ok-due.ensures.due c.in_ok-note_dues.ensures.told c.in_ok-note_twice-2.ensures
    c.in_ok-note_dues-2.ensures.told
