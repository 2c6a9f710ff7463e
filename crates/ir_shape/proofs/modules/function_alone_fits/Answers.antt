use Rattle.std.proofs.Common.{IfErr, false, subst}
use Rattle.ir_core.specs.declared.modules.Module.{Module}
use Rattle.ir_shape.specs.Shape.{IsFirstOf, in_function}
use Rattle.ir_shape.proofs.modules.function_alone_fits.Goals as goal

pub returns-clause-fault : goal.returns-clause-fault
returns-clause-fault c =
    subst (λ (m : Module). IfErr c.function_fits.result (IsFirstOf (in_function m false c.args.function.now))) c.in_ok-beside.ensures c.function_fits.ensures.fault
