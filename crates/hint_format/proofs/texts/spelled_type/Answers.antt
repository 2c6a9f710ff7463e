-- What is read is what is judged, since a text that has a fault spells nothing.
use Rattle.std.proofs.Common.{◌≡◌, ℕ, List, Ok, rules, subst}
use Rattle.json_forms.specs.Answers.{Fails}
use Rattle.hint_format.specs.Reading.{type_reading, failure_of}
use Rattle.hint_format.proofs.Readings.{type_due, type_fails}
use Rattle.hint_format.proofs.texts.spelled_type.Goals as goal

pub returns-in-Ok : goal.returns-in-Ok
returns-in-Ok c =
    let same : c.as_bytes.result.now ≡ c.args.text.now = search rules in
    subst (λ (bytes : List ℕ). type_reading bytes ≡ Ok c.in-Ok.ty) same
    (type_due c.as_bytes.result.now c.in-Ok.ty c.in-Ok.ensures.short c.in-Ok.ensures.spelled c.in-Ok.ensures.only)

pub returns-in-Err : goal.returns-in-Err
returns-in-Err c =
    let same : c.as_bytes.result.now ≡ c.args.text.now = search rules in
    let fails : Fails (failure_of c.in-Err.fault) (type_reading c.args.text.now) =
    subst (λ (bytes : List ℕ). Fails (failure_of c.in-Err.fault) (type_reading bytes)) same
    (type_fails c.as_bytes.result.now c.in-Err.fault c.in-Err.ensures.fault) in
    rw c.failure_of.ensures fails
