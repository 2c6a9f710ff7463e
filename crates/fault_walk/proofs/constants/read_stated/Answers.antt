use Rattle.std.proofs.Common.{◌≡◌, ap}
use Rattle.derivation_cursor.specs.At.{ahead_of}
use Rattle.module_derivations.specs.Types.{any_type}
use Rattle.named_modules.specs.Faults.{type_faults}
use Rattle.fault_walk.specs.Told.{is_faultless}
use Rattle.fault_walk.specs.declared.told.Told.{Told}
use Rattle.fault_walk.proofs.Noted.{faultless}
use Rattle.fault_walk.proofs.constants.read_stated.Goals as goal

pub returns-clause-stated : goal.returns-clause-stated
returns-clause-stated c =
    let fs = type_faults c.args.sight.now (any_type (ahead_of c.args.c.now)) in
    let none : c.is_none.result ≡ is_faultless fs =
    faultless fs c.note_type_ahead.new.told.fault c.is_none.result (ap (λ (t : Told). t.fault) c.in_ok-place.ensures.told) c.is_none.ensures in
    cc (c.in_ok-ty.ensures.built, c.in_ok-place.ensures.place, none)
