use Rattle.std.proofs.Common.{◌∙◌, Option, sym, ap}
use Rattle.std.specs.Borrow.{Bor}
use Rattle.std.specs.Option.{option_copied, option_map}
use Rattle.ir_types.specs.declared.ty.Ty.{Ty, Ptr}
use Rattle.ir_typing.specs.OperandTests.Constants.{may_be}
use Rattle.ir_typing.proofs.OperandTests.Lent.{turned}
use Rattle.ir_typing.proofs.operand_tests.addresses.may_be.Goals as goal

pub returns-in-Some : goal.returns-in-Some
returns-in-Some c =
    let to = c.args.to.now in
    c.points_to.ensures ∙ turned to (Ptr c.in-Some.pointed.now) ∙ sym (ap (λ (o : Option (Bor Ty)). may_be (option_map Ptr (option_copied o)) to) c.in-Some.is)
