use Rattle.std.proofs.Common.{◌∙◌, sym}
use Rattle.ir_values.specs.Constants.{scope_of}
use Rattle.ir_values.proofs.ConstantValues.{worth_in_kind}
use Rattle.ir_values.proofs.constants.constant_value.Goals as goal

pub returns-then-is_of_type-clause-kind : goal.returns-then-is_of_type-clause-kind
returns-then-is_of_type-clause-kind c =
    worth_in_kind (scope_of c.args.«module».now) c.args.ty.now c.args.constant.now c.worth.result (sym c.is_of_type.ensures ∙ c.if-is_of_type.true) c.worth.ensures
