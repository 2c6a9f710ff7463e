-- What a sink holds that failed.
use Rattle.std.proofs.Common.{◌≡◌, ◌≢◌, ◌⊎◌, ◌<◌, ◌++◌, ℕ, zero, suc, List, [], ◌∷◌, length, take, get_or, codes, Option, Some, refl, sym, ap, ◌∙◌, subst, inl, inr, arith}
use Rattle.crell_io.specs.Sink.{appended}
use Rattle.crell_program.specs.Delivery.{GotPart, SinkSeen}
use Rattle.crell_program.specs.FirstParts.{FailuresLeaveFirstParts, HoldsFirstPart, PartsAreFirst, PartsOfExamples, Tells, failed_with}

same_some : (a b : List ℕ) → Some a ≡ Some b → a ≡ b
same_some a b same = cc

-- what is told of a sink that got these bytes more
told_after : (sink : SinkSeen) (before after more : List ℕ) → Tells sink before after → sink.after ≡ appended sink.before more → after ≡ before ++ more
told_after sink before after more tells got =
    same_some after (before ++ more) (sym tells.1 ∙ (got ∙ ap (λ (w : Option (List ℕ)). appended w more) tells.0))

take_part : (part rest : List ℕ) → take (length part) (part ++ rest) ≡ part
take_part [] [] = refl
take_part [] (y ∷ rest) = refl
take_part (x ∷ part) rest = ap (λ (l : List ℕ). x ∷ l) (take_part part rest)

shorter : (part rest : List ℕ) → rest ≢ [] → length part < length (part ++ rest)
shorter [] [] some = absurd (some refl)
shorter [] (y ∷ rest) some = omega arith
shorter (x ∷ part) rest some = let less : length part < length (part ++ rest) = shorter part rest some in omega arith

pub parts_are_first : PartsAreFirst
parts_are_first sink before after text tells (risen, room, (part, rest, some, is, got)) = (
  length part,
  subst (λ (l : List ℕ). length part < length l) (sym is) (shorter part rest some),
  told_after sink before after part tells got
      ∙ ap (λ (l : List ℕ). before ++ l) (sym (ap (λ (l : List ℕ). take (length part) l) is ∙ take_part part rest)),
)

pub failures_leave_first_parts : FailuresLeaveFirstParts
failures_leave_first_parts answer out err out_before out_after err_before err_after other out_tells err_tells (inl (e, to_out, to_err)) = absurd (other (sym e))
failures_leave_first_parts answer out err out_before out_after err_before err_after other out_tells err_tells (inr (inl (e, part, kept))) =
    inl (
      parts_are_first out out_before out_after answer.out out_tells part,
      same_some err_after err_before (sym err_tells.1 ∙ (kept.0 ∙ err_tells.0)),
    )
failures_leave_first_parts answer out err out_before out_after err_before err_after other out_tells err_tells (inr (inr (e, all, part))) =
    inr (told_after out out_before out_after answer.out out_tells all.0, parts_are_first err err_before err_after answer.err err_tells part)

-- the first bytes of `no`
first_of_no : (bytes : List ℕ) → HoldsFirstPart [] bytes (codes "no") → (bytes ≡ []) ⊎ (bytes ≡ codes "n")
first_of_no bytes (zero, less, is) = inl is
first_of_no bytes (suc zero, less, is) = inr is
first_of_no bytes (suc (suc n), less, is) = absurd (omega (arith, less))

held : (bytes : List ℕ) → GotPart (failed_with bytes) (codes "no") → (bytes ≡ []) ⊎ (bytes ≡ codes "n")
held bytes part = first_of_no bytes (parts_are_first (failed_with bytes) [] bytes (codes "no") (refl, refl) part)

neither : (bytes : List ℕ) → bytes ≢ [] → bytes ≢ codes "n" → GotPart (failed_with bytes) (codes "no") → ⊥
neither bytes some more part = elim (held bytes part) [
  | inl e ↦ some e
  | inr e ↦ more e
]

longer : (bytes : List ℕ) → 1 < length bytes → GotPart (failed_with bytes) (codes "no") → ⊥
longer bytes long =
    neither bytes (λ e. let same = ap (λ (l : List ℕ). length l) e in absurd (omega (arith, long, same)))
    (λ e. let same = ap (λ (l : List ℕ). length l) e in absurd (omega (arith, long, same)))

isnt_last : codes "o" ≢ codes "n"
isnt_last e = let same : 111 ≡ 110 = ap (λ (l : List ℕ). get_or l 0 0) e in absurd (omega (arith, same))

pub parts_of_examples : PartsOfExamples
parts_of_examples = record {
  first = (inl (omega arith), omega arith, (codes "n", codes "o", (λ e. cc), refl, refl));
  nothing = (inl (omega arith), omega arith, ([], codes "no", (λ e. cc), refl, refl));
  whole = longer (codes "no") (omega arith);
  last = neither (codes "o") (λ e. cc) isnt_last;
  other = longer (codes "yes") (omega arith);
  uncounted = λ (risen, room, part). elim risen [
    | inl more ↦ absurd (omega (arith, more))
    | inr full ↦ absurd (omega (arith, full))
  ];
}
