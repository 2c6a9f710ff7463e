use Rattle.std.proofs.Common.{◌≡◌, drop}
use Rattle.std.specs.List.{list_all}
use Rattle.ir_shape.specs.ShapeTests.Counted.{agree_at, count_in}
use Rattle.ir_shape.specs.ShapeTests.Kinds.{froms_of}
use Rattle.ir_shape.proofs.shape_tests.phis.entries_agree.Given as goal

abbrev pub invariant-loop-entry : goal.invariant-loop-entry
invariant-loop-entry l =
    list_all (agree_at (count_in l.counts) (count_in l.others)) (froms_of (drop l.entry-index l.entries)) ≡ list_all (agree_at (count_in l.counts) (count_in l.others)) (froms_of l.entries)
