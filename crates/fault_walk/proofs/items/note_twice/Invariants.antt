use Rattle.std.proofs.Common.{◌≡◌, [], drop}
use Rattle.fault_walk.specs.Items.{kept_faults, names_in}
use Rattle.fault_walk.specs.Told.{faults_more}
use Rattle.fault_walk.proofs.items.note_twice.Given as goal

-- what is noted so far, and of those that are left
abbrev pub invariant-loop-listed : goal.invariant-loop-listed
invariant-loop-listed l =
    faults_more (kept_faults l.taken (names_in l.pick (drop l.listed-index l.list))) l.told ≡ faults_more (kept_faults [] (names_in l.pick l.list)) l.fn.told
