-- Values and operands over either kind of registers.
use Rattle.std.proofs.Common.{◌≡◌, ◌∙◌, List, [], ◌∷◌, map, ap, refl}
use Rattle.ir_types.specs.declared.ty.Ty.{Ty}
use Rattle.module_walk.specs.LogicExpressions as expressions
use Rattle.module_grammar.specs.declared.constants.OperandText.{OperandText}
use Rattle.module_grammar.specs.declared.constants.ValueText.{ValueText}
use Rattle.module_grammar.specs.declared.constants.ValueText.TheVariants as text
use Rattle.module_walk.specs.Values.{names, operand_by, registers, value_by}
use Rattle.named_modules.specs.Built as built
use Rattle.named_modules.specs.Types.{type_of}

-- over a line's

pub value_of_names : (t : Ty) (w : ValueText) → value_by names t w ≡ built.value_at t w
value_of_names t (text.Const w) = refl
value_of_names t (text.Local w) = refl
value_of_names t (text.Tagged tag w) = refl

pub operand_of_names : (w : OperandText) → operand_by names w ≡ built.operand_of w
operand_of_names w = ap (λ a. record { ty = type_of w.ty; atom = a }) (value_of_names (type_of w.ty) w.value)

pub operands_of_names : (ws : List OperandText) → map (operand_by names) ws ≡ map built.operand_of ws
operands_of_names [] = refl
operands_of_names (w ∷ ws) = ap (λ o. o ∷ map (operand_by names) ws) (operand_of_names w) ∙ ap (λ os. built.operand_of w ∷ os) (operands_of_names ws)

-- over an expression's

pub value_of_registers : (t : Ty) (w : ValueText) → value_by registers t w ≡ expressions.value_at t w
value_of_registers t (text.Const w) = refl
value_of_registers t (text.Local w) = refl
value_of_registers t (text.Tagged tag w) = refl

pub operand_of_registers : (w : OperandText) → operand_by registers w ≡ expressions.operand_of w
operand_of_registers w = ap (λ a. record { ty = type_of w.ty; atom = a }) (value_of_registers (type_of w.ty) w.value)

pub operands_of_registers : (ws : List OperandText) → map (operand_by registers) ws ≡ map expressions.operand_of ws
operands_of_registers [] = refl
operands_of_registers (w ∷ ws) =
    ap (λ o. o ∷ map (operand_by registers) ws) (operand_of_registers w) ∙ ap (λ os. expressions.operand_of w ∷ os) (operands_of_registers ws)
