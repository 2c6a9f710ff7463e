-- What a parser's acts write down along trees are the marks of the trees.
use Rattle.std.proofs.Common.{◌≡◌, ◌∙◌, ◌+◌, ℕ, suc, Bool, List, [], ◌++◌, length, ap, sym, append_assoc, arith}
use Rattle.std.proofs.lemmas.List.{append-nil, length-append}
use Rattle.predictive.specs.Grammar.{End, Forest, Leaf, Node, after_trees, yield}
use Rattle.module_derivations.specs.FlatMarks.Flat.{AreWritten, Mark, Written, begun, marks_from, reduced, rule_marks, shifted, token_marks}

module _ (chosen says : ℕ → Bool) where
  at_place : ℕ → List Mark → Written
  at_place i ms = record { place = i; marks = ms }

  abbrev run : Forest → Written → Written
  run f w = after_trees (begun chosen says) (shifted chosen says) (reduced chosen says) f w

  abbrev marks : ℕ → Forest → List Mark
  marks i f = marks_from chosen says i f

  pub writes : (f : Forest) (i : ℕ) (before : List Mark) → run f (record { place = i; marks = before }) ≡ record { place = i + length (yield f); marks = before ++ marks i f }
  writes End i before =
      let same : i ≡ i + 0 = omega arith in
      ap (λ j. record { place = j; marks = before }) same ∙ ap (λ ms. record { place = i + 0; marks = ms }) (sym (append-nil before))
  writes (Leaf k f) i before =
      let same : suc i + length (yield f) ≡ i + suc (length (yield f)) = omega arith in
      writes f (suc i) (before ++ token_marks chosen says k i)
      ∙ ap (λ j. record { place = j; marks = (before ++ token_marks chosen says k i) ++ marks (suc i) f }) same
      ∙ ap (λ ms. record { place = i + suc (length (yield f)); marks = ms }) (append_assoc before (token_marks chosen says k i) (marks (suc i) f))
  writes (Node p kids f) i before =
      let inner = i + length (yield kids) in
      let whole : length (yield kids ++ yield f) ≡ length (yield kids) + length (yield f) = length-append (yield kids) (yield f) in
      let same : inner + length (yield f) ≡ i + length (yield kids ++ yield f) = omega (arith, whole) in
      let first = before ++ rule_marks chosen says p in
      ap (λ w. run f w) (writes kids i first)
      ∙ writes f inner (first ++ marks i kids)
      ∙ ap (λ j. record { place = j; marks = (first ++ marks i kids) ++ marks inner f }) same
      ∙ ap (λ ms. record { place = i + length (yield kids ++ yield f); marks = ms }) (append_assoc first (marks i kids) (marks inner f) ∙ append_assoc before (rule_marks chosen says p) (marks i kids ++ marks inner f))

pub are_written : AreWritten
are_written chosen says f =
    let same : 0 + length (yield f) ≡ length (yield f) = omega arith in
    writes chosen says f 0 [] ∙ ap (λ j. record { place = j; marks = marks_from chosen says 0 f }) same
