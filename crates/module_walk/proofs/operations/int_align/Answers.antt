use Rattle.std.proofs.Math.Facts.{Fits-of_lt}
use Rattle.module_walk.proofs.Aligns.{align_fits}
use Rattle.module_walk.proofs.operations.int_align.Goals as goal

pub overflow_cast-result : goal.overflow_cast-result
overflow_cast-result c = Fits-of_lt (align_fits c.none.result c.args.width c.align_of.result c.ranges.width.fits c.align_of.ensures)
