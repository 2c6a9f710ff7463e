use Rattle.std.proofs.Common.{refl, rules}
use Rattle.ir_typing.specs.ShapeKinds.Kept.{type_in}
use Rattle.ir_shape.specs.Apart.{in_new_block, in_new_blocks}
use Rattle.ir_shape.proofs.Found.{in_that}
use Rattle.ir_shape.proofs.apart.blocks_fit.Goals as goal

pub returns-in_err-block_fits-clause-fault : goal.returns-in_err-block_fits-clause-fault
returns-in_err-block_fits-clause-fault c =
    let m = c.args.scope.now.beside.now in
    let f = c.args.«function».now in
    let labels = c.args.scope.now.labels in
    let types = type_in c.args.scope.now.types in
    let there = in_that (in_new_blocks m f labels types c.args.entry.now) (in_new_block m f labels types c.args.entry.now c.block-item.result) _ c.args.blocks.now
    c.loop-block.block-index c.block-item.result _ c.loop-block-test.true c.block-item.is refl c.loop-block.invariant c.in_err-block_fits.field-0.0 c.in_err-block_fits.ensures.fault in
    search (rules, there)
