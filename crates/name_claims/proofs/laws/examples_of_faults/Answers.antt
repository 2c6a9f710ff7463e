-- The first fault is computed.
use Rattle.std.proofs.Common.{[], ◌∷◌, refl}
use Rattle.name_claims.specs.declared.claims.Reason.TheVariants.{Twice, WrongNumber, Unknown, WrongType}
use Rattle.name_claims.specs.Laws.{label_as_value, label_of_no_block, number_again, number_and_use, value_as_label}
use Rattle.name_claims.proofs.First.{first_is, not_first, not_later}
use Rattle.name_claims.proofs.laws.examples_of_faults.Goals as goal

pub returns-clause-rank : goal.returns-clause-rank
returns-clause-rank c =
    let first = first_is (number_again ∷ []) (record { start = 21; end = 22; reason = Twice }) refl in
    (first, not_first (number_again ∷ []) (record { start = 21; end = 22; reason = Twice }) (record { start = 21; end = 22; reason = WrongNumber 1 }) first refl)

pub returns-clause-place : goal.returns-clause-place
returns-clause-place c =
    let first = first_is (number_and_use ∷ []) (record { start = 18; end = 20; reason = WrongNumber 1 }) refl in
    (first, not_first (number_and_use ∷ []) (record { start = 18; end = 20; reason = WrongNumber 1 }) (record { start = 31; end = 33; reason = Unknown }) first refl)

pub returns-clause-label : goal.returns-clause-label
returns-clause-label c =
    let first = first_is (label_as_value ∷ []) (record { start = 29; end = 31; reason = WrongType }) refl in
    (first, not_later (label_as_value ∷ []) (record { start = 29; end = 31; reason = WrongType }) (record { start = 29; end = 31; reason = Unknown }) first refl)

pub returns-clause-jump : goal.returns-clause-jump
returns-clause-jump c =
    let first = first_is (value_as_label ∷ []) (record { start = 37; end = 39; reason = WrongType }) refl in
    (first, not_later (value_as_label ∷ []) (record { start = 37; end = 39; reason = WrongType }) (record { start = 37; end = 39; reason = Unknown }) first refl)

pub returns-clause-unknown : goal.returns-clause-unknown
returns-clause-unknown c = first_is (label_of_no_block ∷ []) (record { start = 31; end = 33; reason = Unknown }) refl
