use Rattle.std.proofs.Common.{[], None, rules}
use Rattle.ir_core.specs.Functions.{names_in, params_of}
use Rattle.ir_shape.specs.LineShapes.Told.{header_kind}
use Rattle.ir_typing.specs.ShapeKinds.Names.{are_new}
use Rattle.ir_shape.specs.ShapeTests.Kinds.{name_kind}
use Rattle.ir_shape.proofs.ShapeTests.Tests.{joined_none}
use Rattle.ir_shape.specs.Shape.{IsFirstOf, fault_at, in_function}
use Rattle.ir_shape.proofs.Found.{behind, further, others_decide, others_fit}
use Rattle.ir_shape.proofs.first.function_fits.Goals as goal

pub returns-in_err-name_fits-clause-fault : goal.returns-in_err-name_fits-clause-fault
returns-in_err-name_fits-clause-fault c =
    let f = c.args.function.now in
    let e = c.in_err-name_fits.field-0.0 in
    let this : IsFirstOf (in_function c.args.beside.now c.args.taken f) e = further (fault_at f.name None (name_kind c.args.taken f.name)) _ e c.in_err-name_fits.ensures.fault in
    search (rules, this)

pub returns-in_err-params_fit-clause-fault : goal.returns-in_err-params_fit-clause-fault
returns-in_err-params_fit-clause-fault c =
    let m = c.args.beside.now in
    let f = c.args.function.now in
    let e = c.in_err-params_fit.field-0.0 in
    let header = fault_at f.name None (header_kind m (are_new [] (names_in (params_of f))) f) in
    let this : IsFirstOf (in_function m c.args.taken f) e =
    behind (fault_at f.name None (name_kind c.args.taken f.name)) _ c.in_ok-name_fits.ensures.fits e (further header _ e c.in_err-params_fit.ensures.fault) in
    search (rules, this)

pub returns-then-fits_as_assumed-clause-fits : goal.returns-then-fits_as_assumed-clause-fits
returns-then-fits_as_assumed-clause-fits c =
    let m = c.args.beside.now in
    let f = c.args.function.now in
    let header = fault_at f.name None (header_kind m (are_new [] (names_in (params_of f))) f) in
    joined_none (fault_at f.name None (name_kind c.args.taken f.name)) _ c.in_ok-name_fits.ensures.fits
    (joined_none header _ c.in_ok-params_fit.ensures.fits (c.fits_as_assumed.ensures c.if-fits_as_assumed.true))

pub returns-clause-fits : goal.returns-clause-fits
returns-clause-fits c =
    let m = c.args.beside.now in
    let f = c.args.function.now in
    let r = c.told_blocks_fit.result in
    let header = fault_at f.name None (header_kind m (are_new [] (names_in (params_of f))) f) in
    others_fit (fault_at f.name None (name_kind c.args.taken f.name)) _ c.in_ok-name_fits.ensures.fits r (others_fit header _ c.in_ok-params_fit.ensures.fits r c.told_blocks_fit.ensures.fits)

pub returns-clause-fault : goal.returns-clause-fault
returns-clause-fault c =
    let m = c.args.beside.now in
    let f = c.args.function.now in
    let r = c.told_blocks_fit.result in
    let header = fault_at f.name None (header_kind m (are_new [] (names_in (params_of f))) f) in
    others_decide (fault_at f.name None (name_kind c.args.taken f.name)) _ c.in_ok-name_fits.ensures.fits r
    (others_decide header _ c.in_ok-params_fit.ensures.fits r c.told_blocks_fit.ensures.fault)
