use Rattle.std.proofs.Common.{◌∙◌, sym, ap}
use Rattle.ir_shape.specs.ShapeTests.Edges.{row_by, rows_of}
use Rattle.ir_shape.proofs.ShapeTests.Rows.{row_there}
use Rattle.ir_shape.proofs.shape_tests.incoming.row_of.Goals as goal

pub returns-in-Some : goal.returns-in-Some
returns-in-Some c =
    row_there c.args.into.now c.in-Some.place c.get.result c.get.ensures.lookup.0 c.get.ensures.lookup.1
    ∙ ap (λ o. row_by o (rows_of c.args.into.now)) (sym c.in-Some.is ∙ c.position.ensures)
