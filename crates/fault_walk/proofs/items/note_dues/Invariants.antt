use Rattle.std.proofs.Common.{◌≡◌, drop}
use Rattle.named_modules.specs.Faults.{due_faults}
use Rattle.fault_walk.specs.Items.{due_over, names_in}
use Rattle.fault_walk.specs.Told.{faults_more}
use Rattle.fault_walk.proofs.items.note_dues.Given as goal

-- what is noted so far, and of those that are left
abbrev pub invariant-loop-listed : goal.invariant-loop-listed
invariant-loop-listed l = record {
  told : faults_more (due_faults l.next (names_in l.pick (drop l.listed-index l.list))) l.told ≡ faults_more (due_faults l.due (names_in l.pick l.list)) l.fn.told;
  due : due_over l.next (names_in l.pick (drop l.listed-index l.list)) ≡ due_over l.due (names_in l.pick l.list);
}
