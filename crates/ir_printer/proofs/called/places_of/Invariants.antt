use Rattle.std.proofs.Common.{◌≡◌, drop}
use Rattle.std.specs.Option.{option_or}
use Rattle.ir_types.specs.declared.names.Name.{Name}
use Rattle.ir_core.specs.NameIndexes.Places.{place_in}
use Rattle.ir_printer.specs.Called.{place_from}
use Rattle.ir_printer.proofs.called.places_of.Given as goal

-- what is told, and the ones that are left
abbrev pub invariant-loop-i : goal.invariant-loop-i
invariant-loop-i l = (x : Name) → option_or (place_in l.places x) (place_from l.i (drop l.i l.declarations) x) ≡ place_from 0 l.declarations x
