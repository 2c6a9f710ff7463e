-- What statuses, headlines, readings and deliveries are not.
use Rattle.std.proofs.Common.{◌≡◌, ◌++◌, ℕ, true, false, List, [], Option, Some, refl, sym, ◌∙◌, ap}
use Rattle.std.proofs.lemmas.List.{append-nil, append_cancel_left}
use Rattle.crell_io.specs.Sink.{appended}
use Rattle.crell_program.specs.Examples.{HeadlinesAreOfTexts, PartsAreNotAll, ReadingsAreOne, StatusesOfExamples}

pub statuses_of_examples : StatusesOfExamples
statuses_of_examples = record { least = refl; most = refl; more = λ (s : false ≡ true). cc }

pub headlines_are_of_texts : HeadlinesAreOfTexts
headlines_are_of_texts = record {
  no_command = λ told h. h;
  check = λ told names source target is_source is_target. rw is_source (rw is_target ((λ h. h), (λ h. h)));
  print = λ told listing file text is. rw is ((λ h. h), (λ h. h));
}

pub readings_are_one : ReadingsAreOne
readings_are_one text a b at_a at_b = at_b.1 a at_a.0

same_some : (a b : List ℕ) → Some a ≡ Some b → a ≡ b
same_some a b same = cc

pub parts_are_not_all : PartsAreNotAll
parts_are_not_all sink bytes text told all part =
    let whole : Some (bytes ++ text) ≡ sink.after = ap (λ (w : Option (List ℕ)). appended w text) (sym told) ∙ sym all.0 in
    let first : sink.after ≡ Some (bytes ++ part.2.0) = part.2.4 ∙ ap (λ (w : Option (List ℕ)). appended w part.2.0) told in
    let same : text ≡ part.2.0 = append_cancel_left bytes text part.2.0 (same_some (bytes ++ text) (bytes ++ part.2.0) (whole ∙ first)) in
    let nothing : [] ≡ part.2.1 = append_cancel_left part.2.0 [] part.2.1 (append-nil part.2.0 ∙ (sym same ∙ part.2.3)) in
    part.2.2 (sym nothing)
