use Rattle.std.proofs.Common.{◌≡◌, ◌++◌, drop, map}
use Rattle.definedness.specs.Along.{left_by_phis, use_of}
use Rattle.definedness.proofs.uses.note_phis.Given as goal

abbrev pub invariant-loop-phi : goal.invariant-loop-phi
invariant-loop-phi l =
    map use_of l.uses.items ++ left_by_phis l.known.params l.block l.line (drop l.phi-index l.block.phis)
    ≡ map use_of l.initial.uses.items ++ left_by_phis l.known.params l.block 0 l.block.phis
