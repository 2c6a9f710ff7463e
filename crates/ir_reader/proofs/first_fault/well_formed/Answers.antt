use Rattle.ir_reader.proofs.Among.{are_bytes}
use Rattle.ir_reader.proofs.ToldFaults.{fitting, told_of_text}
use Rattle.ir_reader.proofs.first_fault.well_formed.Goals as goal

pub returns-clause-well_formed : goal.returns-clause-well_formed
returns-clause-well_formed c =
    let bytes = c.args._text.now in
    let m = c.args.module.now in
    fitting bytes m c.requires c.faultless_modules_have_shape.ensures
    (c.spelled_modules_are_in_range.ensures bytes m (are_bytes bytes c.type_inv._text) c.requires) (c.spelled_modules_are_within.ensures bytes m c.requires)
    c.fits.result c.fits.ensures.faultless c.fits.ensures.defined

pub returns-clause-fault : goal.returns-clause-fault
returns-clause-fault c = told_of_text c.args._text.now c.args.module.now c.requires c.fits.result c.fits.ensures.fault

pub fits-requires : goal.fits-requires
fits-requires c = c.spelled_modules_are_within.ensures c.args._text.now c.args.module.now c.requires
