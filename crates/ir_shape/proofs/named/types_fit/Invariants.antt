use Rattle.std.proofs.Common.{◌≡◌, [], drop}
use Rattle.ir_shape.specs.Shape.{in_types}
use Rattle.ir_shape.proofs.named.types_fit.Given as goal

-- the types that are left decide
abbrev pub invariant-loop-named : goal.invariant-loop-named
invariant-loop-named l = in_types l.beside l.names (drop l.named-index l.types) ≡ in_types l.beside [] l.types
