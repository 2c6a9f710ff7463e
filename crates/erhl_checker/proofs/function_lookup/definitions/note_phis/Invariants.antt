use Rattle.std.proofs.Common.{◌≡◌, ◌++◌, drop}
use Rattle.ir_core.specs.Functions.{phi_registers}
use Rattle.erhl_checker.proofs.function_lookup.definitions.note_phis.Given as goal

abbrev pub invariant-loop-phi : goal.invariant-loop-phi
invariant-loop-phi l =
    l.found.items ++ phi_registers (drop l.phi-index l.phis)
    ≡ l.initial.found.items ++ phi_registers l.phis
