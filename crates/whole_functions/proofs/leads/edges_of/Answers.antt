use Rattle.std.proofs.Common.{◌≡◌, rules}
use Rattle.definedness.specs.Graph.{labels_in}
use Rattle.ir_shape.specs.ShapeTests.Edges.{rows_of, with_blocks}
use Rattle.whole_functions.proofs.Edged.{rows_kept}
use Rattle.whole_functions.proofs.leads.edges_of.Goals as goal

pub returns-in-Some-clause-rows : goal.returns-in-Some-clause-rows
returns-in-Some-clause-rows c =
    let are : rows_of c.put_blocks.new.rows.items ≡ with_blocks (labels_in c.args.blocks.now) (rows_of c.in_ok-rows.rows.items) c.args.blocks.now = search rules in
    rows_kept c.args.blocks.now (rows_of c.in_ok-rows.rows.items) _ c.in_ok-rows.ensures are
