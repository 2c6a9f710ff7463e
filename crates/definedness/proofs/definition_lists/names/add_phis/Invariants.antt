use Rattle.std.proofs.Common.{◌≡◌, ◌++◌, drop}
use Rattle.ir_core.specs.Functions.{names_in, phi_registers}
use Rattle.definedness.specs.DefinitionLists.Shown.{named}
use Rattle.definedness.proofs.definition_lists.names.add_phis.Given as goal

abbrev pub invariant-loop-phi : goal.invariant-loop-phi
invariant-loop-phi l =
    named l.names.items ++ names_in (phi_registers (drop l.phi-index l.phis)) ≡ named l.initial.names.items ++ names_in (phi_registers l.phis)
