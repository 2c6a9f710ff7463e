use Rattle.std.proofs.Common.{◌≡◌, drop, map}
use Rattle.ir_core.specs.declared.functions.Case.{Case}
use Rattle.ir_typing.specs.OperandTests.Known.{are_types_known}
use Rattle.ir_shape.proofs.line_shapes.stated.are_cases_known.Given as goal

abbrev pub invariant-loop-case : goal.invariant-loop-case
invariant-loop-case l =
    are_types_known l.beside (map (λ (c : Case). c.ty) (drop l.case-index l.cases)) ≡ are_types_known l.beside (map (λ (c : Case). c.ty) l.cases)
