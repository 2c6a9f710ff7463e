use Rattle.std.proofs.Common.{◌≡◌, drop}
use Rattle.ir_shape.specs.Shape.{in_declarations, with_declared}
use Rattle.ir_shape.proofs.modules.declarations_fit.Given as goal

-- the declarations that are left decide
abbrev pub invariant-loop-declaration : goal.invariant-loop-declaration
invariant-loop-declaration l =
    (with_declared l.names (drop l.declaration-index l.declarations) ≡ with_declared l.initial.names l.declarations)
    × (in_declarations l.beside l.names (drop l.declaration-index l.declarations) ≡ in_declarations l.beside l.initial.names l.declarations)
