-- Words of private functions: lines that get addresses.
use Rattle.ir_core.specs.declared.expressions.Element.{Element}
use Rattle.ir_core.specs.declared.expressions.Expr.TheVariants as expr
use Rattle.ir_core.specs.declared.functions.Instr.{Instr}
use Rattle.ir_core.specs.declared.functions.Instr.TheVariants as instr
use Rattle.ir_types.specs.declared.names.Name.{Name}

-- the line that gives a register this address
abbrev pub addressing : Name → Element Name → Instr
addressing name e = instr.Calm (record { name = name; right = expr.Element e })
