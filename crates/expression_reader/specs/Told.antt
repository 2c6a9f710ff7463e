-- Words of private functions: the tree of a text, and what is out of range in parts of expressions.
use Rattle.std.specs.Prelude.{ℕ, List, ◌++◌}
use Rattle.expression_reader.specs.Expressions.{AreOfExpression}
use Rattle.expression_reader.specs.Ranges.{const_faults, operand_faults, value_faults}
use Rattle.module_grammar.specs.declared.constants.ConstText.{ConstText}
use Rattle.module_grammar.specs.declared.constants.OperandText.{OperandText}
use Rattle.module_grammar.specs.declared.constants.ValueText.{ValueText}
use Rattle.module_grammar.specs.declared.lines.ExprText.{ExprText}
use Rattle.module_grammar.specs.declared.types.TypeText.{TypeText}
use Rattle.name_claims.specs.declared.claims.Fault.{Fault}
use Rattle.named_modules.specs.Types.{type_of}
use Rattle.expression_reader.specs.Types.{OfTokens, count_faults}

-- the tokens of the text are written of this expression
abbrev pub IsTreeOf : List ℕ → ExprText → Type 0
IsTreeOf bytes tree = OfTokens bytes (λ tokens. AreOfExpression bytes tokens tree)

-- a type, and a constant of it
abbrev pub part_faults : TypeText × ConstText → List Fault
part_faults p = count_faults p.0 ++ const_faults p.1 (type_of p.0)

-- an operand, and behind it a value of its type
abbrev pub pair_faults : OperandText → ValueText → List Fault
pair_faults left right = operand_faults left ++ value_faults (type_of left.ty) right
