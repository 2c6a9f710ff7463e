use Rattle.std.proofs.Common.{false, rules}
use Rattle.ir_core.specs.Depths.{AreShallow, depths_in_function}
use Rattle.ir_core.specs.Sizes.{AreSmall, wanted_in_function}
use Rattle.ir_typing.specs.ModuleLimits.Passed.{IsShort}
use Rattle.ir_shape.specs.Shape.{in_function}
use Rattle.ir_shape.proofs.Found.{end_of}
use Rattle.ir_shape.proofs.modules.shape_function.Goals as goal

pub returns-in-Some-clause-fault : goal.returns-in-Some-clause-fault
returns-in-Some-clause-fault c = search rules

pub returns-in-None-clause-within : goal.returns-in-None-clause-within
returns-in-None-clause-within c = search rules

pub returns-in-None-clause-fault : goal.returns-in-None-clause-fault
returns-in-None-clause-fault c =
    let m = c.args.module.now in
    let f = c.args.function.now in
    end_of (AreShallow (depths_in_function f)) (IsShort f) (AreSmall m.types (wanted_in_function m.types f)) (in_function m false f) c.in-None.ensures.none c.function_alone_fits.result
    c.function_alone_fits.ensures.fault
