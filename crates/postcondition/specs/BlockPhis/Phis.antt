-- Words of private functions. The names of phis' registers, and a phi's entries.
use Rattle.std.specs.Prelude.{◌≡◌, List, map, Option, IfSome}
use Rattle.ir_types.specs.declared.names.Name.{Name}
use Rattle.ir_core.specs.declared.functions.Entry.{Entry}
use Rattle.ir_core.specs.declared.functions.Phi.{Phi}

-- where there are names, they are those of the phis' registers
abbrev pub AreTheirNames : Option (List Name) → List Phi → Type 0
AreTheirNames names ps = IfSome names (λ ns. ns ≡ map (λ (p : Phi). p.name) ps)

-- where there are entries, they are the phi's
abbrev pub AreItsEntries : Option (List Entry) → Phi → Type 0
AreItsEntries entries p = IfSome entries (λ es. es ≡ p.entries)
