use Rattle.std.proofs.Common.{◌∙◌, ap, sym}
use Rattle.ir_core.specs.declared.expressions.Element.{Element}
use Rattle.ir_core.specs.declared.expressions.Expr.{Expr}
use Rattle.ir_types.specs.declared.names.Name.{Name}
use Rattle.ir_typing.specs.OperandTests.Constants.{element_kind}
use Rattle.ir_shape.specs.LineShapes.Told.{addressed_kind}
use Rattle.ir_shape.proofs.line_shapes.told.addressed_kind.Goals as goal

pub returns-in-Element : goal.returns-in-Element
returns-in-Element c =
    let m = c.args.beside.now in
    c.element_kind.ensures ∙ ap (λ (e : Element Name). element_kind m e) c.get.ensures ∙ sym (ap (λ (right : Expr Name). addressed_kind m right) c.in-Element.is)
