use Rattle.std.proofs.Common.{◌≡◌, drop}
use Rattle.std.specs.List.{list_all}
use Rattle.ir_shape.specs.ShapeTests.Edges.{agrees, named}
use Rattle.ir_shape.specs.ShapeTests.Kinds.{froms_of}
use Rattle.ir_shape.proofs.shape_tests.few.entries_agree.Given as goal

abbrev pub invariant-loop-entry : goal.invariant-loop-entry
invariant-loop-entry l =
    list_all (agrees (named l.edges) (froms_of l.entries)) (froms_of (drop l.entry-index l.entries)) ≡ list_all (agrees (named l.edges) (froms_of l.entries)) (froms_of l.entries)
