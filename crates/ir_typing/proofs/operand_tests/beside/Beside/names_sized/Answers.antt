use Rattle.std.proofs.Common.{◌≡◌, true, subst}
use Rattle.std.specs.Option.{is_some}
use Rattle.ir_core.specs.declared.modules.Module.{Module}
use Rattle.ir_types.specs.declared.ty.Ty.{Named}
use Rattle.ir_types.specs.Named.{fields_of, is_sized}
use Rattle.ir_typing.proofs.OperandTests.AtOnce.{sized_by_fields}
use Rattle.ir_typing.proofs.operand_tests.beside.Beside.names_sized.Goals as goal

pub returns : goal.returns
returns c = λ yes x.
    subst (λ (m : Module). is_some (fields_of m.types x) ≡ true → is_sized m.types (Named x) ≡ true) c.self.view_is
    (sized_by_fields c.self.inside.whole.now.types (c.self.invariant.sizes yes) x)
