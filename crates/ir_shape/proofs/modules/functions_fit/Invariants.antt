use Rattle.std.proofs.Common.{◌≡◌, drop}
use Rattle.ir_shape.specs.Shape.{in_functions}
use Rattle.ir_shape.proofs.modules.functions_fit.Given as goal

-- what is left decides
abbrev pub invariant-loop-i : goal.invariant-loop-i
invariant-loop-i l = in_functions l.beside l.names l.i l.rest (drop l.i l.functions) ≡ in_functions l.beside l.initial.names 0 l.declarations l.functions
