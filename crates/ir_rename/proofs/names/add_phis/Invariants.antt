use Rattle.std.proofs.Common.{◌≡◌, ◌++◌, drop}
use Rattle.ir_core.specs.Functions.{names_in, phi_registers}
use Rattle.ir_rename.specs.Lent.{lent}
use Rattle.ir_rename.proofs.names.add_phis.Given as goal

abbrev pub invariant-loop-phi : goal.invariant-loop-phi
invariant-loop-phi l =
    lent l.names.items ++ names_in (phi_registers (drop l.phi-index l.phis)) ≡ lent l.initial.names.items ++ names_in (phi_registers l.phis)
