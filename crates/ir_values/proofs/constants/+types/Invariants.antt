use Rattle.std.proofs.Common.{◌≡◌, drop}
use Rattle.ir_typing.proofs.OperandTests.Measures.{of_constant, of_constants}
use Rattle.ir_values.specs.ConstantParts as told
use Rattle.ir_values.specs.Constants.{scope_of}
use Rattle.ir_values.proofs.constants.+types.Given as goal

abbrev pub decreases-is_of_type : goal.decreases-is_of_type
decreases-is_of_type l = of_constant l.constant.now

abbrev pub decreases-are_of_types : goal.decreases-are_of_types
decreases-are_of_types l = of_constants l.parts.now

-- the parts that are left decide
abbrev pub invariant-are_of_types-loop-part : goal.invariant-are_of_types-loop-part
invariant-are_of_types-loop-part l = told.are_of_types (scope_of l.«module») (drop l.part-index l.parts) ≡ told.are_of_types (scope_of l.«module») l.parts
