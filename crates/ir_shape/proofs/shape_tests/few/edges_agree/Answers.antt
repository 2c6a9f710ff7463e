use Rattle.std.proofs.Common.{◌≡◌, ◌∙◌, true, false, sym, rules}
use Rattle.std.specs.Borrow.{Bor}
use Rattle.ir_types.specs.declared.names.Name.{Name}
use Rattle.ir_shape.specs.ShapeTests.Edges.{agrees, named}
use Rattle.ir_shape.specs.ShapeTests.Kinds.{froms_of}
use Rattle.ir_shape.proofs.ShapeTests.Tests.{all_more, all_stops}
use Rattle.ir_shape.proofs.shape_tests.few.edges_agree.Goals as goal

pub returns-then-not-agrees : goal.returns-then-not-agrees
returns-then-not-agrees c =
    let no : c.agrees.result ≡ false = search rules in
    all_stops (agrees (named c.args.edges.now) (froms_of c.args.entries.now)) (λ (lent : Bor Name). lent.now) c.args.edges.now c.loop-edge.edge-index c.edge-item.result (search rules) c.edge-item.is
    (sym c.agrees.ensures ∙ no) c.loop-edge.invariant

pub loop-edge-preserved : goal.loop-edge-preserved
loop-edge-preserved c =
    let yes : c.agrees.result ≡ true = search rules in
    all_more (agrees (named c.args.edges.now) (froms_of c.args.entries.now)) (λ (lent : Bor Name). lent.now) c.args.edges.now c.loop-edge.edge-index c.edge-item.result (search rules) c.edge-item.is
    (sym c.agrees.ensures ∙ yes) c.loop-edge.invariant
