use Rattle.std.proofs.Common.{rules}
use Rattle.ir_shape.proofs.FileOrder.{in_that_function, one_function}
use Rattle.ir_shape.proofs.modules.functions_fit.Goals as goal

pub returns-in_err-rest-clause-fault : goal.returns-in_err-rest-clause-fault
returns-in_err-rest-clause-fault c =
    let there = in_that_function c.args.beside.now c.loop-i.names c.loop-i.i c.loop-i.rest.now c.args.functions.now c.index-functions-i.result _ c.loop-i-test.true c.index-functions-i.is
    c.loop-i.invariant c.in_err-rest.field-0.0 c.in_err-rest.ensures.fault in
    search (rules, there)

pub loop-i-preserved : goal.loop-i-preserved
loop-i-preserved c =
    one_function c.args.beside.now c.loop-i.names c.next_fits.new.names c.loop-i.i c.loop-i.rest.now c.in_ok-rest.rest.now c.args.functions.now c.index-functions-i.result _ c.loop-i-test.true
    c.index-functions-i.is c.in_ok-rest.ensures.fits c.in_ok-rest.ensures.names c.in_ok-rest.ensures.rest c.loop-i.invariant
