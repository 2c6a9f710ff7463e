use Rattle.std.proofs.Common.{◌∙◌, ap, sym}
use Rattle.ir_core.specs.declared.expressions.Element.{Element}
use Rattle.ir_core.specs.declared.expressions.Expr.{Expr}
use Rattle.ir_core.specs.declared.functions.Instr.TheVariants as instr
use Rattle.ir_types.specs.declared.names.Name.{Name}
use Rattle.ir_shape.specs.LineShapes.Addressed.{addressing}
use Rattle.ir_shape.proofs.line_shapes.addressed.address_in.Goals as goal

pub returns-in-Element : goal.returns-in-Element
returns-in-Element c =
    let x = c.in-Calm.calm.name in
    (x, c.in-Calm.is ∙ ap (λ (right : Expr Name). instr.Calm (record { name = x; right = right })) c.in-Element.is ∙ ap (λ (e : Element Name). addressing x e) (sym c.get.ensures))
