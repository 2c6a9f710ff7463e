-- The pieces stand one behind the other.
use Rattle.std.proofs.Common.{◌∙◌, sym, ap, rules}
use Rattle.ir_core.specs.declared.operands.Const.{Cast, Element}
use Rattle.ir_printer.proofs.ExpressionPrinter.ConstantTexts.{cast_told, element_told}
use Rattle.ir_printer.proofs.expression_printer.values.+push_constant_parts.Goals as goal

pub returns-after-loop-i : goal.returns-after-loop-i
returns-after-loop-i t c =
    let is = c.in-Element.is ∙ ap (λ e. Element e) (sym c.get-element.ensures) in
    element_told c.args.text.now c.push_element_head.new.text c.loop-i.text c.put_byte-in-Element.new.self c.args.ty.now c.args.constant.now
    c.get-element.result.now c.loop-i.i is c.push_element_head.ensures c.loop-i.invariant (search rules) c.put_byte-in-Element.ensures

pub returns-after-loop-i-2 : goal.returns-after-loop-i-2
returns-after-loop-i-2 t c =
    let is = c.in-Cast.is ∙ ap (λ e. Cast e) (sym c.get-cast.ensures) in
    cast_told c.args.text.now c.put-in-Cast.new.self c.loop-i-2.text c.put-in-Cast-2.new.self c.push_type-in-Cast.new.text c.put_byte-in-Cast.new.self
    c.args.ty.now c.args.constant.now c.get-cast.result.now c.loop-i-2.i is
    c.put-in-Cast.ensures c.loop-i-2.invariant (search rules) c.put-in-Cast-2.ensures c.push_type-in-Cast.ensures c.put_byte-in-Cast.ensures
