-- What is read is what is judged, since a text that has a fault spells nothing.
use Rattle.json_forms.specs.Answers.{Fails}
use Rattle.hint_format.specs.Reading.{failure_of, name_reading}
use Rattle.hint_format.proofs.Readings.{name_due, name_fails}
use Rattle.hint_format.proofs.texts.spelled.Goals as goal

pub returns-in-Ok : goal.returns-in-Ok
returns-in-Ok c = name_due c.args.sigil c.args.text.now c.in-Ok.name c.in-Ok.ensures.short c.in-Ok.ensures.spelled c.in-Ok.ensures.only

pub returns-in-Err : goal.returns-in-Err
returns-in-Err c =
    let fails : Fails (failure_of c.in-Err.fault) (name_reading c.args.sigil c.args.text.now) =
    name_fails c.args.sigil c.args.text.now c.in-Err.fault c.in-Err.ensures.fault in
    rw c.failure_of.ensures fails
