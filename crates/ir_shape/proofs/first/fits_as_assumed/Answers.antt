use Rattle.std.proofs.Common.{◌∙◌, true, sym}
use Rattle.ir_typing.specs.ShapeKinds.Kept.{type_in}
use Rattle.ir_shape.proofs.Assumed.{found_holds, none_as_told}
use Rattle.ir_shape.proofs.first.fits_as_assumed.Goals as goal

pub returns-then-scope : goal.returns-then-scope
returns-then-scope c = λ seen.
    let scope = c.args.scope.now in
    none_as_told true c.args.beside.now scope.beside.now scope.labels (type_in scope.types) c.args.«function».now c.as_slice.result.now c.requires.beside c.requires.labels c.requires.types c.as_slice.ensures
    (c.requires.names c.if-scope.true) (found_holds _ c.new_body_fits.result (sym c.is_ok.ensures.value ∙ seen) c.new_body_fits.ensures.fits)
