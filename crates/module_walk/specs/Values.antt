-- Values and operands as they are built, over what registers are built as.
use Rattle.ir_core.specs.declared.expressions.Reg.{Reg}
use Rattle.ir_core.specs.declared.expressions.Reg.TheVariants as reg
use Rattle.ir_core.specs.declared.operands.Atom.{Atom}
use Rattle.ir_core.specs.declared.operands.Atom.TheVariants.{Constant, Register}
use Rattle.ir_core.specs.declared.operands.Operand.{Operand}
use Rattle.ir_types.specs.declared.names.Name.{Name}
use Rattle.ir_types.specs.declared.ty.Ty.{Ty}
use Rattle.module_walk.specs.LogicExpressions.{tagged}
use Rattle.module_grammar.specs.declared.constants.OperandText.{OperandText}
use Rattle.module_grammar.specs.declared.constants.Tag.{Tag}
use Rattle.module_grammar.specs.declared.constants.ValueText.{ValueText}
use Rattle.module_grammar.specs.declared.constants.ValueText.TheVariants as text
use Rattle.named_modules.specs.Constants.{const_of}
use Rattle.named_modules.specs.Types.{type_of}

-- what a register is built as, bare or behind a tag
pub record Naming (R : Type 0) : Type 0 where
  pub bare : Name → R
  pub tagged : Tag → Name → R

-- a line's registers: a tag is left out
abbrev pub names : Naming Name
names = record { bare = λ x. x; tagged = λ tag x. x }

-- an expression's
abbrev pub registers : Naming Reg
registers = record { bare = λ x. reg.Now x; tagged = tagged }

abbrev pub value_by : {R : Type 0} → Naming R → Ty → ValueText → Atom R
value_by naming t (text.Const w) = Constant (const_of w t)
value_by naming t (text.Local w) = Register (naming.bare w.what)
value_by naming t (text.Tagged tag w) = Register (naming.tagged tag w.what)

abbrev pub operand_by : {R : Type 0} → Naming R → OperandText → Operand R
operand_by naming w = record { ty = type_of w.ty; atom = value_by naming (type_of w.ty) w.value }
