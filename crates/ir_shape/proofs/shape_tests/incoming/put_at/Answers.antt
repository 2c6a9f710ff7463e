use Rattle.std.proofs.Common.{◌≡◌, ◌∙◌, [], ◌∷◌, ◌++◌, List, slice_set, slice_index_or, ap, sym, rules}
use Rattle.std.proofs.lemmas.List.{get_or-map, map-set}
use Rattle.ir_types.specs.declared.names.Name.{Name}
use Rattle.ir_shape.specs.ShapeTests.Edges.{names_on, rows_of}
use Rattle.ir_shape.proofs.shape_tests.incoming.put_at.Goals as goal

pub returns-in_ok-put_on : goal.returns-in_ok-put_on
returns-in_ok-put_on c =
    let rows = c.args.into.now.items in
    let p = c.args.place in
    let r = c.index_mut.result.now in
    let old : names_on r ≡ slice_index_or (rows_of rows) p [] = ap names_on c.index_mut.ensures.value ∙ sym (get_or-map names_on rows p r [] (search rules)) in
    map-set names_on rows p c.put_on.new.row
    ∙ ap (λ (names : List Name). slice_set (rows_of rows) p names) (c.in_ok-put_on.ensures ∙ ap (λ (names : List Name). names ++ c.args.from.now ∷ []) old)
