use Rattle.ir_core.specs.Depths.{IsShallow}
use Rattle.ir_core.specs.Sizes.{IsSmall}
use Rattle.ir_typing.specs.ModuleLimits.Passed.{AreShort}
use Rattle.ir_shape.specs.Shape.{faults_of}
use Rattle.ir_shape.proofs.Found.{end_of}
use Rattle.ir_shape.proofs.modules.shape.Goals as goal

pub returns-in-None-clause-fault : goal.returns-in-None-clause-fault
returns-in-None-clause-fault c =
    let m = c.args.module.now in
    end_of (IsShallow m) (AreShort m.functions) (IsSmall m) (faults_of m) c.in-None.ensures.none c.module_fits.result c.module_fits.ensures.fault
