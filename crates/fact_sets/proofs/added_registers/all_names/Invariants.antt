use Rattle.std.proofs.Common.{◌≡◌, drop}
use Rattle.fact_sets.specs.Names.{no_names, with_registers}
use Rattle.fact_sets.proofs.added_registers.all_names.Given as goal

abbrev pub invariant-loop-register : goal.invariant-loop-register
invariant-loop-register l = with_registers (drop l.register-index l.registers) l.names ≡ with_registers l.registers no_names
