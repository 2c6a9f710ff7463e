use Rattle.std.proofs.Common.{◌≡◌, drop}
use Rattle.ir_core.specs.Functions.{names_in, set_by}
use Rattle.ir_shape.specs.ShapeTests.Kinds.{are_new, with_names}
use Rattle.whole_shapes.proofs.sight.put_lines.Given as goal

abbrev pub invariant-loop-instr : goal.invariant-loop-instr
invariant-loop-instr l =
    (are_new l.sight.names (names_in (set_by (drop l.instr-index l.lines))) ≡ are_new l.initial.sight.names (names_in (set_by l.lines)))
    × (with_names l.sight.names (names_in (set_by (drop l.instr-index l.lines))) ≡ with_names l.initial.sight.names (names_in (set_by l.lines)))
