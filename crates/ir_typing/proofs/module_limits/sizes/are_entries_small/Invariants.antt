use Rattle.std.proofs.Common.{◌≡◌, drop}
use Rattle.std.specs.List.{flat_map}
use Rattle.ir_core.specs.declared.functions.Entry.{Entry}
use Rattle.ir_core.specs.Sizes.{wanted_by_atom}
use Rattle.ir_typing.specs.ModuleLimits.Small.{are_small}
use Rattle.ir_typing.proofs.module_limits.sizes.are_entries_small.Given as goal

abbrev pub invariant-loop-entry : goal.invariant-loop-entry
invariant-loop-entry l = are_small l.«module».types (flat_map (λ (e : Entry). wanted_by_atom l.«module».types e.value) (drop l.entry-index l.entries)) ≡ are_small l.«module».types (flat_map (λ (e : Entry). wanted_by_atom l.«module».types e.value) l.entries)
