use Rattle.std.proofs.Common.{◌≡◌, drop}
use Rattle.ir_shape.specs.Shape.{in_globals, with_globals}
use Rattle.ir_shape.proofs.modules.globals_fit.Given as goal

-- the globals that are left decide
abbrev pub invariant-loop-global : goal.invariant-loop-global
invariant-loop-global l =
    (with_globals l.names (drop l.global-index l.globals) ≡ with_globals l.initial.names l.globals)
    × (in_globals l.beside l.names (drop l.global-index l.globals) ≡ in_globals l.beside l.initial.names l.globals)
