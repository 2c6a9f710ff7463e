use Rattle.std.proofs.Common.{◌≡◌, List, [], true, IfErr, IfOk, subst, sym}
use Rattle.std.specs.List.{flat_map}
use Rattle.ir_core.specs.declared.functions.Block.{Block}
use Rattle.ir_core.specs.Functions.{block_names, names_in, params_of}
use Rattle.ir_typing.specs.ShapeKinds.Kept.{type_in}
use Rattle.ir_typing.specs.ShapeKinds.Names.{are_new, with_names}
use Rattle.ir_shape.specs.ShapeTests.Kinds.{labels_of, types_of}
use Rattle.ir_shape.specs.declared.fault.ShapeFault.{ShapeFault}
use Rattle.ir_shape.specs.Shape.{IsFirstOf}
use Rattle.ir_shape.proofs.NewNames.{behind_params, body_is}
use Rattle.ir_shape.proofs.first.all_blocks_fit.Goals as goal

pub returns-then-scope-clause-fits : goal.returns-then-scope-clause-fits
returns-then-scope-clause-fits c =
    let m = c.args.beside.now in
    let f = c.args.«function».now in
    let scope = c.args.scope.now in
    let params = with_names [] (names_in (params_of f)) in
    let new = subst (λ (bs : List Block). are_new params (flat_map block_names bs) ≡ true) (sym c.as_slice-blocks.ensures) (behind_params f (c.requires.names c.if-scope.true)) in
    let same = body_is m scope.beside.now (labels_of f) scope.labels (types_of m f) (type_in scope.types) f params f.blocks c.as_slice-blocks.result.now c.requires.beside c.requires.labels c.requires.types
    c.as_slice-blocks.ensures new in
    subst (λ (faults : List ShapeFault). IfOk c.new_body_fits.result (λ _. faults ≡ [])) same c.new_body_fits.ensures.fits

pub returns-then-scope-clause-fault : goal.returns-then-scope-clause-fault
returns-then-scope-clause-fault c =
    let m = c.args.beside.now in
    let f = c.args.«function».now in
    let scope = c.args.scope.now in
    let params = with_names [] (names_in (params_of f)) in
    let new = subst (λ (bs : List Block). are_new params (flat_map block_names bs) ≡ true) (sym c.as_slice-blocks.ensures) (behind_params f (c.requires.names c.if-scope.true)) in
    let same = body_is m scope.beside.now (labels_of f) scope.labels (types_of m f) (type_in scope.types) f params f.blocks c.as_slice-blocks.result.now c.requires.beside c.requires.labels c.requires.types
    c.as_slice-blocks.ensures new in
    subst (λ (faults : List ShapeFault). IfErr c.new_body_fits.result (IsFirstOf faults)) same c.new_body_fits.ensures.fault
