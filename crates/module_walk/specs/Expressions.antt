-- Expressions as they are built, over what registers are built as.
use Rattle.std.specs.Prelude.{ℕ, [], Option, Some, unwrap_or}
use Rattle.ir_core.specs.declared.expressions.Expr.TheVariants as expr
use Rattle.ir_core.specs.Expressions.{Expr0}
use Rattle.ir_types.specs.declared.ty.Ty.{Ty}
use Rattle.module_walk.specs.LogicExpressions.{own_align}
use Rattle.module_grammar.specs.declared.lines.ExprText.{ExprText}
use Rattle.module_grammar.specs.declared.lines.ExprText.TheVariants as written
use Rattle.module_walk.specs.Operations.{element_by, operation_by}
use Rattle.module_walk.specs.Values.{operand_by, registers}
use Rattle.named_modules.specs.Built.{align_of}
use Rattle.named_modules.specs.Types.{type_of}

-- this alignment, or that of the type
abbrev pub aligned : Ty → Option ℕ → ℕ
aligned t align = unwrap_or align (own_align t)

abbrev pub expression_by : ExprText → Expr0
expression_by (written.Plain w) = expr.Plain (operand_by registers w)
expression_by (written.Operation w) = operation_by registers w
expression_by (written.Element w) = expr.Element (element_by registers [] w)
expression_by (written.Load w) =
    expr.Load (record { of = type_of w.ty; pointer = operand_by registers w.address; align = Some (aligned (type_of w.ty) (align_of w.align)) })
