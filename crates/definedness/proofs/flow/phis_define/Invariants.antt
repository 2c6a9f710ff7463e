use Rattle.std.proofs.Common.{◌≡◌, drop}
use Rattle.ir_core.specs.Functions.{names_in, phi_registers}
use Rattle.ir_core.specs.NameIndexes.Among.{is_among}
use Rattle.definedness.proofs.flow.phis_define.Given as goal

abbrev pub invariant-loop-phi : goal.invariant-loop-phi
invariant-loop-phi l = is_among l.name (names_in (phi_registers (drop l.phi-index l.phis))) ≡ is_among l.name (names_in (phi_registers l.phis))
