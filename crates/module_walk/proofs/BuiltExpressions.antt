-- Expressions that are built over registers of the logic are those that the tree names.
use Rattle.std.proofs.Common.{◌≡◌, ◌∙◌, [], map, Some, ap}
use Rattle.ir_core.specs.declared.expressions.Expr.TheVariants as expr
use Rattle.module_walk.specs.LogicExpressions.{expression_of, element_of, operand_of, operation_of, value_at}
use Rattle.module_grammar.specs.declared.lines.ElementText.{ElementText}
use Rattle.module_grammar.specs.declared.lines.ExprText.{ExprText}
use Rattle.module_grammar.specs.declared.lines.ExprText.TheVariants as written
use Rattle.module_grammar.specs.declared.lines.OperationText.{OperationText}
use Rattle.module_grammar.specs.declared.lines.OperationText.TheVariants as form
use Rattle.module_grammar.specs.Operators.{operator_op}
use Rattle.module_walk.proofs.Namings.{operand_of_registers, operands_of_registers, value_of_registers}
use Rattle.module_walk.specs.Expressions.{aligned, expression_by}
use Rattle.module_walk.specs.Operations.{element_at, element_by, operation_by}
use Rattle.module_walk.specs.Values.{operand_by, registers, value_by}
use Rattle.named_modules.specs.Built.{align_of}
use Rattle.named_modules.specs.Lines.{cast_op, flags_of}
use Rattle.named_modules.specs.Types.{type_of}

pub operation_of_registers : (w : OperationText) → operation_by registers w ≡ operation_of w
operation_of_registers (form.Binary w) =
    let t = type_of w.left.ty in
    ap (λ a. expr.Binary (record { op = operator_op w.operator; flags = flags_of w.operator; ty = t; left = a; right = value_by registers t w.right })) (value_of_registers t w.left.value)
    ∙ ap (λ a. expr.Binary (record { op = operator_op w.operator; flags = flags_of w.operator; ty = t; left = value_at t w.left.value; right = a })) (value_of_registers t w.right)
operation_of_registers (form.Compare w) =
    let t = type_of w.left.ty in
    ap (λ a. expr.Icmp (record { pred = w.pred; ty = t; left = a; right = value_by registers t w.right })) (value_of_registers t w.left.value)
    ∙ ap (λ a. expr.Icmp (record { pred = w.pred; ty = t; left = value_at t w.left.value; right = a })) (value_of_registers t w.right)
operation_of_registers (form.Cast w) = ap (λ o. expr.Cast (record { op = cast_op w.word; operand = o; to = type_of w.to })) (operand_of_registers w.from)
operation_of_registers (form.Select w) =
    ap (λ o. expr.Select (record { condition = o; left = operand_by registers w.then; right = operand_by registers w.other })) (operand_of_registers w.condition)
    ∙ ap (λ o. expr.Select (record { condition = operand_of w.condition; left = o; right = operand_by registers w.other })) (operand_of_registers w.then)
    ∙ ap (λ o. expr.Select (record { condition = operand_of w.condition; left = operand_of w.then; right = o })) (operand_of_registers w.other)

element_of_registers : (w : ElementText) → element_by registers [] w ≡ element_of w
element_of_registers w =
    ap (λ o. element_at [] w.inbounds (type_of w.of) o (map (operand_by registers) w.indices)) (operand_of_registers w.base)
    ∙ ap (λ os. element_at [] w.inbounds (type_of w.of) (operand_of w.base) os) (operands_of_registers w.indices)

pub expression_of_registers : (w : ExprText) → expression_by w ≡ expression_of w
expression_of_registers (written.Plain w) = ap (λ o. expr.Plain o) (operand_of_registers w)
expression_of_registers (written.Operation w) = operation_of_registers w
expression_of_registers (written.Element w) = ap (λ e. expr.Element e) (element_of_registers w)
expression_of_registers (written.Load w) =
    ap (λ o. expr.Load (record { of = type_of w.ty; pointer = o; align = Some (aligned (type_of w.ty) (align_of w.align)) })) (operand_of_registers w.address)
