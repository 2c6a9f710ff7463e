-- What is built where nothing is read.
use Rattle.std.proofs.Common.{◌≡◌, ◌∙◌, ap, sym}
use Rattle.ir_core.specs.declared.expressions.Expr.{Expr}
use Rattle.ir_core.specs.declared.expressions.Expr.TheVariants as expr
use Rattle.ir_core.specs.declared.operands.Atom.{Atom}
use Rattle.ir_core.specs.declared.operands.Atom.TheVariants.{Constant}
use Rattle.ir_core.specs.declared.operands.BinOp.TheVariants.{And}
use Rattle.ir_core.specs.declared.operands.Const as constant
use Rattle.ir_core.specs.declared.operands.Flags.{Flags}
use Rattle.ir_core.specs.declared.operands.Operand.{Operand}
use Rattle.ir_types.specs.declared.ty.Ty as ty
use Rattle.ir_types.specs.declared.ty.Ty.{Ty}
use Rattle.module_derivations.specs.Empty.{no_operand, no_operation, no_type}
use Rattle.module_walk.specs.Operations.{no_flags, operation_by}
use Rattle.module_walk.specs.Values.{Naming, operand_by}
use Rattle.named_modules.proofs.BuiltConstants.{of_undef}
use Rattle.named_modules.proofs.BuiltTypes.{of_int}
use Rattle.named_modules.specs.Types.{type_of}

no_type_built : type_of no_type ≡ ty.Int 1
no_type_built = of_int (record { what = 1; start = 0; end = 0 })

operand : {R : Type 0} → Ty → Atom R → Operand R
operand t a = record { ty = t; atom = a }

pub no_operand_built : {R : Type 0} (naming : Naming R) → operand_by naming no_operand ≡ record { ty = ty.Int 1; atom = Constant constant.Undef }
unfolding operand
no_operand_built naming =
    ap (λ c. operand (type_of no_type) (Constant c)) (of_undef (type_of no_type)) ∙ ap (λ t. operand t (Constant constant.Undef)) no_type_built

binary : {R : Type 0} → Flags → Ty → Atom R → Expr R
binary flags t a = expr.Binary (record { op = And; flags = flags; ty = t; left = a; right = a })

pub no_operation_built :
    {R : Type 0} (naming : Naming R) (flags : Flags) → flags ≡ no_flags
    → operation_by naming no_operation
    ≡ expr.Binary (record { op = And; flags = flags; ty = ty.Int 1; left = Constant constant.Undef; right = Constant constant.Undef })
unfolding binary
no_operation_built naming flags none =
    ap (λ c. binary no_flags (type_of no_type) (Constant c)) (of_undef (type_of no_type))
    ∙ ap (λ t. binary no_flags t (Constant constant.Undef)) no_type_built
    ∙ ap (λ f. binary f (ty.Int 1) (Constant constant.Undef)) (sym none)
