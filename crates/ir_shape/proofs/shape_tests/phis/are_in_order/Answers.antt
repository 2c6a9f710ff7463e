use Rattle.std.proofs.Common.{◌∙◌, ap, arith, sym}
use Rattle.ir_core.specs.declared.functions.Entry.{Entry}
use Rattle.ir_types.specs.Same.{same_name}
use Rattle.ir_shape.proofs.ShapeTests.Counted.{rest_in_order}
use Rattle.ir_shape.proofs.shape_tests.phis.are_in_order.Goals as goal

pub loop-at-preserved : goal.loop-at-preserved
loop-at-preserved c =
    rest_in_order c.args.edges.now c.args.entries.now c.loop-at.at c.index-edges-at.result c.index-entries-at.result _ c.loop-at-test.true (omega (arith, c.loop-at-test.true, c.if-edges-entries.false))
    c.index-edges-at.is c.index-entries-at.is (ap (λ (e : Entry). same_name c.index-edges-at.result.now e.from) c.index-entries-at.is ∙ sym c.same_name.ensures ∙ c.if-not-same_name.false) c.loop-at.invariant
