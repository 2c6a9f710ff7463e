use Rattle.std.proofs.Common.{◌∙◌, ap}
use Rattle.ir_typing.specs.OperandTests.Stated.{are_constants_known}
use Rattle.ir_typing.proofs.OperandTests.Each.{else_both, then_both}
use Rattle.ir_typing.proofs.OperandTests.Stated.{cast_is, element_is}
use Rattle.ir_typing.proofs.operand_tests.known.+constants.Goals as goal

pub has_types_known-returns-then-is_type_known : goal.has_types_known-returns-then-is_type_known
has_types_known-returns-then-is_type_known t c =
    let m = c.args.beside.now in
    then_both _ _ _ _ _ (element_is m c.args.constant.now c.in-Element.element c.get-element.result.now c.in-Element.is c.get-element.ensures) c.is_type_known.ensures
    c.if-is_type_known.true (c.are_constants_known.ensures ∙ ap (are_constants_known m) c.as_slice.ensures)

pub has_types_known-returns-else-is_type_known : goal.has_types_known-returns-else-is_type_known
has_types_known-returns-else-is_type_known t c =
    let m = c.args.beside.now in
    else_both _ _ _ _ (element_is m c.args.constant.now c.in-Element.element c.get-element.result.now c.in-Element.is c.get-element.ensures) c.is_type_known.ensures
    c.if-is_type_known.false

pub has_types_known-returns-then-are_constants_known : goal.has_types_known-returns-then-are_constants_known
has_types_known-returns-then-are_constants_known t c =
    let m = c.args.beside.now in
    then_both _ _ _ _ _ (cast_is m c.args.constant.now c.in-Cast.cast c.get-cast.result.now c.in-Cast.is c.get-cast.ensures)
    (c.are_constants_known-in-Cast.ensures ∙ ap (are_constants_known m) c.as_slice-in-Cast.ensures) c.if-are_constants_known.true c.is_type_known-then-are_constants_known.ensures

pub has_types_known-returns-else-are_constants_known : goal.has_types_known-returns-else-are_constants_known
has_types_known-returns-else-are_constants_known t c =
    let m = c.args.beside.now in
    else_both _ _ _ _ (cast_is m c.args.constant.now c.in-Cast.cast c.get-cast.result.now c.in-Cast.is c.get-cast.ensures)
    (c.are_constants_known-in-Cast.ensures ∙ ap (are_constants_known m) c.as_slice-in-Cast.ensures) c.if-are_constants_known.false
