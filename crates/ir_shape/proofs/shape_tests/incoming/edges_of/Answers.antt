use Rattle.std.proofs.Common.{◌∙◌, List, ap, rules}
use Rattle.ir_types.specs.declared.names.Name.{Name}
use Rattle.ir_shape.specs.ShapeTests.Edges.{with_blocks}
use Rattle.ir_shape.proofs.ShapeTests.Rows.{all_have_edges, none_need_edges}
use Rattle.ir_shape.proofs.shape_tests.incoming.edges_of.Goals as goal

pub returns-then-not-have_phis : goal.returns-then-not-have_phis
returns-then-not-have_phis c = none_need_edges c.args.labels.now _ c.args.blocks.now (search rules)

pub returns : goal.returns
returns c =
    all_have_edges c.args.labels.now _ c.args.blocks.now c.requires
    (c.in_ok-put_blocks.ensures ∙ ap (λ (rows : List (List Name)). with_blocks c.args.labels.now rows c.args.blocks.now) c.in_ok-into.ensures)
