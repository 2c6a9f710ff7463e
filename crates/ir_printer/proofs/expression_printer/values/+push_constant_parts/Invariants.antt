use Rattle.std.proofs.Common.{take, map}
use Rattle.std.specs.List.{flat_map}
use Rattle.ir_printer.specs.ExpressionPrinter.Printed.{constant_parts, further_text, typed_text}
use Rattle.ir_printer.specs.Told.{IsTold}
use Rattle.ir_printer.proofs.expression_printer.values.+push_constant_parts.Given as goal

abbrev pub invariant-loop-i : goal.invariant-loop-i
invariant-loop-i l = IsTold l.initial.text l.text (flat_map further_text (map (λ c. (c.0, constant_parts c.1)) (take l.i l.element.2)))

abbrev pub invariant-loop-i-2 : goal.invariant-loop-i-2
invariant-loop-i-2 l = IsTold l.initial.text l.text (flat_map typed_text (map (λ c. (c.0, constant_parts c.1)) (take l.i l.cast.1)))
