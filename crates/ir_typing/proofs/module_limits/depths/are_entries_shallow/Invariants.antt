use Rattle.std.proofs.Common.{◌≡◌, drop}
use Rattle.std.specs.List.{list_all}
use Rattle.ir_core.specs.declared.functions.Entry.{Entry}
use Rattle.ir_typing.specs.ModuleLimits.Within.{atom_shallow}
use Rattle.ir_typing.proofs.module_limits.depths.are_entries_shallow.Given as goal

abbrev pub invariant-loop-entry : goal.invariant-loop-entry
invariant-loop-entry l = list_all (λ (e : Entry). atom_shallow e.value) (drop l.entry-index l.entries) ≡ list_all (λ (e : Entry). atom_shallow e.value) l.entries
