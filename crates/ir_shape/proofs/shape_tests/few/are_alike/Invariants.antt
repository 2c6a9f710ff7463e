use Rattle.std.proofs.Common.{◌≡◌, drop}
use Rattle.std.specs.List.{list_all}
use Rattle.ir_core.specs.declared.functions.Entry.{Entry}
use Rattle.ir_shape.specs.ShapeTests.Edges.{alike_with}
use Rattle.ir_shape.proofs.shape_tests.few.are_alike.Given as goal

abbrev pub invariant-loop-entry : goal.invariant-loop-entry
invariant-loop-entry l =
    list_all (λ (d : Entry). list_all (alike_with d) l.entries) (drop l.entry-index l.entries) ≡ list_all (λ (d : Entry). list_all (alike_with d) l.entries) l.entries
