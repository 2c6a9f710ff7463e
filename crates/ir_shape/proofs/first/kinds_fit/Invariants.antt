use Rattle.std.proofs.Common.{◌≡◌, drop}
use Rattle.ir_shape.specs.Shape.{in_kinds}
use Rattle.ir_shape.proofs.first.kinds_fit.Given as goal

-- the kinds that are left decide
abbrev pub invariant-loop-kind : goal.invariant-loop-kind
invariant-loop-kind l =
    (l.line ≡ l.kind-index)
    × (in_kinds l.function l.block l.line l.pending (drop l.kind-index l.kinds) l.end ≡ in_kinds l.function l.block 0 l.fn.own l.kinds l.end)
